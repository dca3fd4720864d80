-- Two's complement of 16 bits: the definitions give what the library's casts give. Assumes nothing.
use Rattle.std.proofs.Common.{◌≡◌, ℕ, suc, ◌-◌, ◌<◌, ◌≤◌, ℤ, pos, negsuc, arith, le-leb}
use lib.Signed.{mag}
use borrow.Author.Tests.{lt-leb}
use Rattle.record.specs.Record.{bits, signed}

pub bits_small : (z : ℤ) → mag z < 32768 → bits z < 65536
bits_small (pos n) h = omega arith
bits_small (negsuc n) h = omega arith

pub signed_low : (n : ℕ) → n < 32768 → signed n ≡ pos n
signed_low n h = rw (lt-leb 32768 n h)

pub signed_high : (n : ℕ) → 32768 ≤ n → signed n ≡ negsuc (65536 - suc n)
signed_high n h = rw (le-leb 32768 n h)
