-- What a known clause that stands within a lesson does where the lesson would force its literal.
use Rattle.std.proofs.Common.{◌≢◌, ℕ, List, [], length, get_or, ap, arith, subst}
use Rattle.std.specs.Prelude.{Contains}
use Rattle.std.proofs.lemmas.List.{length-take-le}
use Rattle.sk_clause.specs.declared.lit.Lit.{Lit}
use Rattle.sk_clause.specs.Meaning.{negated}
use Rattle.sk_clause.specs.Values.{Fails}
use Rattle.sk_clause.proofs.ValueLemmas.{negated_holds}
use Rattle.sk_sat.specs.declared.trail.Trail.{Trail}
use Rattle.sk_sat.specs.Trail.{IsTrail, IsReason, IsBack}
use Rattle.sk_sat.specs.Analysis.{IsLesson}
use Rattle.sk_sat.specs.Round.{IsInside, FallsBack}

-- each of its literals but the one that the lesson forces is still false
inside_fails : (known : List (List Lit)) (c : List Lit) (turn : Lit) (back j : ℕ) (t u : Trail) → IsLesson known t.values.items t.level.items (length t.lims.items) c turn back → IsInside known c j → IsBack back t u
    → (m : Lit) → Contains (get_or known j []) m → m ≢ turn → Fails u.values.items m
inside_fails known c turn back j t u l i b m h other = let f = l.others m (i.each m h) other in b.kept m f.0 f.1

pub inside_reason : (known : List (List Lit)) (c : List Lit) (turn : Lit) (back j : ℕ) (t u : Trail) → IsLesson known t.values.items t.level.items (length t.lims.items) c turn back → IsInside known c j → IsBack back t u → IsTrail known u
    → Contains (get_or known j []) turn → IsReason known j u.lits.items turn
inside_reason known c turn back j t u l i b h has = record {
  there = i.there;
  has = has;
  others = λ m w other. h.agrees.covers (negated m) (negated_holds u.values.items m (inside_fails known c turn back j t u l i b m w other));
}

pub inside_false : (known : List (List Lit)) (c : List Lit) (turn : Lit) (back j : ℕ) (t u : Trail) → IsLesson known t.values.items t.level.items (length t.lims.items) c turn back → IsInside known c j → IsBack back t u → IsTrail known u
    → (Contains (get_or known j []) turn → ⊥) → FallsBack known j t u
inside_false known c turn back j t u l i b h none = record {
  trail = h;
  conflict = record { there = i.there; each = λ m w. inside_fails known c turn back j t u l i b m w (λ e. none (subst (Contains (get_or known j [])) e w)) };
  cut = record { depth = back; inside = (let e = l.less in omega arith); lims = b.lims; long = b.long };
  less = (let e = l.less in let f = length-take-le back t.lims.items (omega arith) in omega (arith, ap length b.lims));
}
