-- Parts, and statements one after another.
use Rattle.std.proofs.Common.{◌≡◌, Bool, true, false, ◌||◌, List, [], ◌∷◌, ◌++◌, map, length, refl, ap}
use Rattle.std.specs.Prelude.{if◌then◌else◌}
use Rattle.std.proofs.lemmas.List.{length-map}
use Rattle.sk_base.specs.declared.span.Span.{Span}
use Rattle.sk_prog.specs.declared.stmt.PStmt.{PStmt}
use Rattle.sk_prog.specs.declared.stmt.PForm.{PForm}
use Rattle.sk_prune.specs.Trimmed.{Trimmed, nothing, one, up_to_end, any_ends}
use Rattle.sk_prune.specs.Trims.{placed}

pub one_part : (b : Bool) (span : Span) (f : PForm) (ends : Bool) → placed b (one span f ends) ≡ record { span = span; form = f } ∷ []
one_part true span f ends = refl
one_part false span f ends = refl

pub no_part : (b : Bool) → placed b nothing ≡ []
no_part true = refl
no_part false = refl

pub as_many : (trim : PStmt → Trimmed) (ss : List PStmt) → length (map trim ss) ≡ length ss
as_many trim ss = length-map ss trim

pub ruleset parts = (one_part, no_part, as_many)

pub end_here : (t : Trimmed) (ts : List Trimmed) → t.ends ≡ true → up_to_end (t ∷ ts) ≡ t.among
end_here t ts h = ap (λ b. if b then t.among else t.among ++ up_to_end ts) h

pub end_later : (t : Trimmed) (ts : List Trimmed) → t.ends ≡ false → up_to_end (t ∷ ts) ≡ t.among ++ up_to_end ts
end_later t ts h = ap (λ b. if b then t.among else t.among ++ up_to_end ts) h

pub any_here : (t : Trimmed) (ts : List Trimmed) → t.ends ≡ true → any_ends (t ∷ ts) ≡ true
any_here t ts h = ap (λ b. b || any_ends ts) h

pub any_later : (t : Trimmed) (ts : List Trimmed) → t.ends ≡ false → any_ends (t ∷ ts) ≡ any_ends ts
any_later t ts h = ap (λ b. b || any_ends ts) h

pub ruleset rows = (end_here, end_later, any_here, any_later)
