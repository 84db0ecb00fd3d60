-- When reads and writes fail, and when a read finds the end.
use Rattle.std.specs.Prelude.{ℕ, List, length, Bool, false, ◌||◌, ◌&&◌, ◌==◌, nat_lt, Result, Ok, Err, is_err}

-- the call returned an error
abbrev pub read_fails : {E : Type 0} → Result ℕ E → Bool
read_fails r = is_err r

-- the call returned no byte
abbrev pub gives_none : {E : Type 0} → Result ℕ E → Bool
gives_none (Ok n) = n == 0
gives_none (Err e) = false

-- a read returned no byte for a buffer that is not empty
abbrev pub read_ends : {E : Type 0} → Result ℕ E → List ℕ → Bool
read_ends r buf = gives_none r && nat_lt 0 (length buf)

-- a write returned an error, or took no byte of a piece that is not empty
abbrev pub write_fails : {E : Type 0} → Result ℕ E → List ℕ → Bool
write_fails r piece = is_err r || (gives_none r && nat_lt 0 (length piece))
