use Rattle.std.proofs.Common.{◌≡◌, ℕ, ◌+◌, ◌<◌, inl, inr, sym, refl, ap, ◌∙◌, arith}
use Rattle.moves.specs.declared.listed.Listed.{Listed}
use Rattle.moves.specs.Moves.{body_of}
use Rattle.moves.specs.Lists.{none, some, begins_of}
use Rattle.moves.proofs.list.MoveList.take_up.Goals as goal

-- no piece of a move that has none
no_pieces : (l : Listed) (k : ℕ) → body_of l ≡ 0 → k < body_of l → ⊥
no_pieces l k f h = omega arith

pub returns-in_default-clause-took : goal.returns-in_default-clause-took
returns-in_default-clause-took c = none c.in_default.ensures refl refl

pub returns-in-Find-clause-took : goal.returns-in-Find-clause-took
returns-in-Find-clause-took c = some c.in-Some.listed (record {
  stands = c.in-Some.ensures;
  behind = c.begin.ensures.same.1.1.0 ∙ ap (λ n. c.args.self.now.at + n) c.width.ensures.value;
  doing = c.begin.ensures.same.1.1.1 ∙ c.from-self.ensures;
  begins = c.begin.ensures.begins ∙ ap (λ (l : Listed). begins_of l c.args.busy.now) (sym c.in-Find.is);
  pieces = λ k h. absurd (no_pieces c.in-Some.listed k (ap body_of c.in-Find.is) h);
})

pub returns-in-Change-clause-took : goal.returns-in-Change-clause-took
returns-in-Change-clause-took c =
    let many : c.kept.result ≡ body_of c.in-Some.listed = c.kept.ensures ∙ ap body_of (sym c.in-Change.is) in
    some c.in-Some.listed (record {
      stands = c.in-Some.ensures;
      behind = c.begin-in-Change.ensures.same.1.1.0 ∙ ap (λ n. c.args.self.now.at + n) c.width.ensures.value;
      doing = c.begin-in-Change.ensures.same.1.1.1 ∙ c.from-self.ensures;
      begins = c.begin-in-Change.ensures.begins ∙ ap (λ (l : Listed). begins_of l c.args.busy.now) (sym c.in-Change.is);
      pieces = λ k h. c.read_pieces.ensures k (rw many h);
    })

pub returns-in-Go-clause-took : goal.returns-in-Go-clause-took
returns-in-Go-clause-took c = some c.in-Some.listed (record {
  stands = c.in-Some.ensures;
  behind = ap (λ n. c.args.self.now.at + n) c.width.ensures.value;
  doing = c.from-self.ensures;
  begins = elim c.in-Go.is [ inl (p, n, e) ↦ ap (λ (l : Listed). begins_of l c.args.busy.now) (sym e) | inr (p, n, e) ↦ ap (λ (l : Listed). begins_of l c.args.busy.now) (sym e) ];
  pieces = λ k h. absurd (no_pieces c.in-Some.listed k (elim c.in-Go.is [ inl (p, n, e) ↦ ap body_of e | inr (p, n, e) ↦ ap body_of e ]) h);
})
