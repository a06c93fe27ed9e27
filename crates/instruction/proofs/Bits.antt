-- A byte is the sum of its bits: what eight bits, and three, of a number come to, at their own places and eight places up.
-- Assumes nothing.
use Rattle.std.proofs.Common.{◌≡◌, ℕ, ◌+◌, ◌*◌, ◌/◌, ◌%◌, ◌<◌, arith}

-- eight halvings, put together
joined : (n q1 q2 q3 q4 q5 q6 q7 q8 d0 d1 d2 d3 d4 d5 d6 d7 : ℕ) → n ≡ q1 * 2 + d0 → q1 ≡ q2 * 2 + d1 → q2 ≡ q3 * 2 + d2 → q3 ≡ q4 * 2 + d3 → q4 ≡ q5 * 2 + d4
    → q5 ≡ q6 * 2 + d5 → q6 ≡ q7 * 2 + d6 → q7 ≡ q8 * 2 + d7 → d7 * 128 + (d6 * 64 + (d5 * 32 + (d4 * 16 + (d3 * 8 + (d2 * 4 + (d1 * 2 + (d0 * 1 + 0)))))))
    + q8 * 256 ≡ n
joined n q1 q2 q3 q4 q5 q6 q7 q8 d0 d1 d2 d3 d4 d5 d6 d7 e0 e1 e2 e3 e4 e5 e6 e7 = omega arith

abbrev pub sum8 : ℕ → ℕ
sum8 n =
    n / 128 % 2 * 128 + (n / 64 % 2 * 64 + (n / 32 % 2 * 32 + (n / 16 % 2 * 16 + (n / 8 % 2 * 8 + (n / 4 % 2 * 4 + (n / 2 % 2 * 2 + (n / 1 % 2 * 1 + 0)))))))

sum8_add : (n : ℕ) → sum8 n + n / 256 * 256 ≡ n
sum8_add n =
    joined n (n / 2) (n / 4) (n / 8) (n / 16) (n / 32) (n / 64) (n / 128) (n / 256) (n / 1 % 2) (n / 2 % 2) (n / 4 % 2) (n / 8 % 2) (n / 16 % 2)
    (n / 32 % 2) (n / 64 % 2) (n / 128 % 2) (omega arith) (omega arith) (omega arith) (omega arith) (omega arith) (omega arith)
    (omega arith) (omega arith)

parted : (n s q m : ℕ) → s + q * 256 ≡ n → q * 256 + m ≡ n → s ≡ m
parted n s q m e f = omega arith

-- the sum of the low eight bits is the remainder by 256
pub sum8_is : (n : ℕ) → sum8 n ≡ n % 256
sum8_is n = parted n (sum8 n) (n / 256) (n % 256) (sum8_add n) (omega arith)

small : (n : ℕ) → n < 256 → n % 256 ≡ n
small n h = omega arith

pub low8 : (n : ℕ) → n < 256 → sum8 n ≡ n
low8 n h = rw (sum8_is, small)

-- the same eight bits as a number's bits 8 to 15
abbrev pub sum16 : ℕ → ℕ
sum16 n =
    n / 128 % 2 * 32768 + (n / 64 % 2 * 16384
    + (n / 32 % 2 * 8192 + (n / 16 % 2 * 4096 + (n / 8 % 2 * 2048 + (n / 4 % 2 * 1024 + (n / 2 % 2 * 512 + (n / 1 % 2 * 256 + 0)))))))

scaled : (n d0 d1 d2 d3 d4 d5 d6 d7 : ℕ) → d7 * 128 + (d6 * 64 + (d5 * 32 + (d4 * 16 + (d3 * 8 + (d2 * 4 + (d1 * 2 + (d0 * 1 + 0))))))) ≡ n
    → d7 * 32768 + (d6 * 16384 + (d5 * 8192 + (d4 * 4096 + (d3 * 2048 + (d2 * 1024 + (d1 * 512 + (d0 * 256 + 0))))))) ≡ n * 256
scaled n d0 d1 d2 d3 d4 d5 d6 d7 e = omega arith

pub high8 : (n : ℕ) → n < 256 → sum16 n ≡ n * 256
high8 n h =
    scaled n (n / 1 % 2) (n / 2 % 2) (n / 4 % 2) (n / 8 % 2) (n / 16 % 2) (n / 32 % 2) (n / 64 % 2) (n / 128 % 2) (low8 n h)

-- three bits
joined3 : (n q1 q2 q3 d0 d1 d2 m : ℕ) → n ≡ q1 * 2 + d0 → q1 ≡ q2 * 2 + d1 → q2 ≡ q3 * 2 + d2 → n ≡ q3 * 8 + m → d2 * 4 + (d1 * 2 + d0 * 1) ≡ m
joined3 n q1 q2 q3 d0 d1 d2 m e0 e1 e2 f = omega arith

pub low3 : (n : ℕ) → n / 4 % 2 * 4 + (n / 2 % 2 * 2 + n / 1 % 2 * 1) ≡ n % 8
low3 n =
    joined3 n (n / 2) (n / 4) (n / 8) (n / 1 % 2) (n / 2 % 2) (n / 4 % 2) (n % 8) (omega arith) (omega arith) (omega arith) (omega arith)

scaled3 : (d0 d1 d2 m : ℕ) → d2 * 4 + (d1 * 2 + d0 * 1) ≡ m → d2 * 1024 + (d1 * 512 + d0 * 256) ≡ m * 256
scaled3 d0 d1 d2 m e = omega arith

pub high3 : (n : ℕ) → n / 4 % 2 * 1024 + (n / 2 % 2 * 512 + n / 1 % 2 * 256) ≡ n % 8 * 256
high3 n = scaled3 (n / 1 % 2) (n / 2 % 2) (n / 4 % 2) (n % 8) (low3 n)

-- bits 8 to 15 of a number at the places 7 to 0
pub high_is : (n : ℕ) → n / 32768 % 2 * 128
    + (n / 16384 % 2 * 64 + (n / 8192 % 2 * 32 + (n / 4096 % 2 * 16 + (n / 2048 % 2 * 8 + (n / 1024 % 2 * 4 + (n / 512 % 2 * 2 + (n / 256 % 2 * 1 + 0)))))))
    ≡ n / 256 % 256
high_is n =
    parted (n / 256) (n / 32768 % 2 * 128
    + (n / 16384 % 2 * 64 + (n / 8192 % 2 * 32 + (n / 4096 % 2 * 16 + (n / 2048 % 2 * 8 + (n / 1024 % 2 * 4 + (n / 512 % 2 * 2 + (n / 256 % 2 * 1 + 0))))))))
    (n / 65536) (n / 256 % 256)
    (joined (n / 256) (n / 512) (n / 1024) (n / 2048) (n / 4096) (n / 8192) (n / 16384) (n / 32768) (n / 65536) (n / 256 % 2) (n / 512 % 2) (n / 1024 % 2)
    (n / 2048 % 2)
    (n / 4096 % 2) (n / 8192 % 2) (n / 16384 % 2) (n / 32768 % 2) (omega arith) (omega arith) (omega arith) (omega arith) (omega arith) (omega arith)
    (omega arith) (omega arith)) (omega arith)

pub high3_is : (n : ℕ) → n / 1024 % 2 * 4 + (n / 512 % 2 * 2 + n / 256 % 2 * 1) ≡ n / 256 % 8
high3_is n =
    joined3 (n / 256) (n / 512) (n / 1024) (n / 2048) (n / 256 % 2) (n / 512 % 2) (n / 1024 % 2) (n / 256 % 8) (omega arith) (omega arith) (omega arith)
    (omega arith)

pub low2_is : (n : ℕ) → n / 2 % 2 * 2 + n / 1 % 2 * 1 ≡ n % 4
low2_is n = omega arith
