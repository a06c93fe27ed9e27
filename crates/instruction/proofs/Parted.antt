-- Three facts said together, as a contract of several clauses has them.
-- Assumes nothing.

pub parted : {A B C : Type 0} → A × B × C → A × (B × C)
parted t = (t.0, (t.1, t.2))
