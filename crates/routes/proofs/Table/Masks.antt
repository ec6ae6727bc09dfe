-- An address's own prefixes.
use Rattle.std.proofs.Common.{◌≡◌, ℕ, ◌-◌, ◌*◌, ◌/◌, ◌%◌, ◌^◌, ◌<◌, ◌≤◌, true, ap, arith}
use lib.Pow.{shl-shr, split}
use Rattle.std.proofs.lemmas.Bool.Decides.{nat_tests}
use Rattle.std.proofs.lemmas.Bool.{eqb-true}
use Rattle.routes.specs.Routes.{fits}
use Rattle.routes.specs.Table.Tables.{Clean}
use Rattle.routes.specs.Table.Lookups.{masked}

-- It fits the address.
pub masked-fits : (len a : ℕ) → fits len (masked len a) a ≡ true
unfolding masked
masked-fits len a = let e = shl-shr (a / 2 ^ (32 - len)) (32 - len) in grind (arith, nat_tests)

-- Clean bits that fit are the address's own.
pub fits-masked : (len bits a : ℕ) → bits % 2 ^ (32 - len) ≡ 0 → fits len bits a ≡ true → bits ≡ masked len a
unfolding masked
fits-masked len bits a c f =
    let e : a / 2 ^ (32 - len) ≡ bits / 2 ^ (32 - len) = eqb-true _ _ f in
    omega (arith, split bits (32 - len), ap (λ z. z * 2 ^ (32 - len)) e)

-- It is clean.
pub masked-clean : (len a : ℕ) → len ≤ 32 → a < 2 ^ 32 → Clean len (masked len a)
unfolding masked
masked-clean len a h l = record {
  short = h;
  small = omega (arith, split a (32 - len));
  rest = omega (arith, split (a / 2 ^ (32 - len) * 2 ^ (32 - len)) (32 - len), ap (λ z. z * 2 ^ (32 - len)) (shl-shr (a / 2 ^ (32 - len)) (32 - len)));
}
