-- Runs of the floats of a node: all zero bytes, and finite. Assumes nothing.
use Rattle.std.specs.Prelude.{Bool, List, ℕ, ◌+◌}
use Rattle.base.specs.Bytes.{all_below}
use Rattle.base.specs.Floats.{is_finite, zero_bytes}
use Rattle.state_array.specs.View.{float_in}

-- the n floats of slot i from the one at `from` are all zero bytes
abbrev pub zero_from : List ℕ → ℕ → ℕ → ℕ → Bool
zero_from s i from n = all_below n (λ k. zero_bytes (float_in s i (from + k)))

-- they are finite
abbrev pub finite_from : List ℕ → ℕ → ℕ → ℕ → Bool
finite_from s i from n = all_below n (λ k. is_finite (float_in s i (from + k)))
