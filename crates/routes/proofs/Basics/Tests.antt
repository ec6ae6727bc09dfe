-- Tests and the facts that they stand for.
use Rattle.std.proofs.Common.{◌≡◌, Bool, true, false, T, refl}

-- A test that holds is true.
pub T_true : (b : Bool) → T b → b ≡ true
T_true true t = refl
T_true false t = absurd t
