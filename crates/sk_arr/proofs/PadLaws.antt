-- Lists made longer.
use Rattle.std.proofs.Common.{◌≡◌, ℕ, zero, suc, ◌+◌, ◌-◌, List, [], ◌∷◌, ◌++◌, length, map, All, refl, sym, ap, subst, ◌∙◌, arith}
use Rattle.std.specs.Prelude.{replicate}
use Rattle.std.proofs.lemmas.List.{map-append, replicate_more}
use Rattle.std.proofs.lemmas.List.Elements.{All-append, All-replicate}
use Rattle.sk_dag.specs.declared.shape.Seen.{Seen}
use Rattle.sk_dag.specs.declared.shape.Shape.{Shape}
use Rattle.sk_dag.specs.Graph.{Graph}
use Rattle.sk_dag.specs.EvalShape.{shape_value}
use Rattle.sk_arr.specs.Shapes.{blank, Alike, AlikeTo, Stands, AllStand, SlotsPass}
use Rattle.sk_arr.specs.Answers.{shapes_value, IsCopy, AreCopies, IsPadded}
use Rattle.sk_arr.proofs.Makers.{Keeps-refl}
use Rattle.sk_arr.proofs.Copies.{copies_none, copies_push}

pub copies_one_more : {g : Graph} (a r : Shape) (n : ℕ) (made : List Shape) → AreCopies g (replicate n a) made → IsCopy g a r → AreCopies g (replicate (n + 1) a) (made ++ r ∷ [])
copies_one_more {g} a r n made are is = subst (λ l. AreCopies g l (made ++ r ∷ [])) (replicate_more n a) (copies_push g (replicate n a) made a r are is)

map_replicate : {A B : Type 0} (f : A → B) (n : ℕ) (x : A) → map f (replicate n x) ≡ replicate n (f x)
map_replicate f zero x = refl
map_replicate f (suc n) x = ap (λ l. f x ∷ l) (map_replicate f n x)

alike_copies : (a : Shape) (list made : List Shape) → map blank made ≡ map blank list → AlikeTo a list → AlikeTo a made
alike_copies a list made e alike = record { each = by list made e alike.each }
  where
    first : List Seen → Seen → Seen
    first [] d = d
    first (x ∷ xs) d = x

    rest : List Seen → List Seen
    rest [] = []
    rest (x ∷ xs) = xs

    by : (list made : List Shape) → map blank made ≡ map blank list → All (Alike a) list → All (Alike a) made
    by [] [] e all i d lt = absurd (omega (arith, lt))
    by (x ∷ xs) [] e all i d lt = absurd (omega (arith, lt))
    by [] (y ∷ ys) e all i d lt = absurd (omega (arith, ap length e))
    by (x ∷ xs) (y ∷ ys) e all zero d lt = all zero d (omega arith) ∙ sym (ap (λ l. first l (blank x)) e)
    by (x ∷ xs) (y ∷ ys) e all (suc i) d lt = by xs ys (ap rest e) (λ k c m. all (suc k) c (omega (arith, m))) i d (omega (arith, lt))

alike_replicate : (n : ℕ) (a : Shape) → AlikeTo a (replicate n a)
alike_replicate n a = record { each = All-replicate (Alike a) n a refl }

stand_replicate : {g : Graph} (n : ℕ) (a : Shape) → Stands g a → AllStand g (replicate n a)
stand_replicate {g} n a h = record { each = All-replicate (Stands g) n a h }

pub padded : {g : Graph} (list front back : List Shape) (z : Shape) (n count : ℕ) → AllStand g list → Stands g z → AlikeTo z list → n ≡ count - length list → AreCopies g list front → AreCopies g (replicate n z) back → IsPadded g list z count (front ++ back)
padded {g} list front back z n count stand stands alike wanting fore aft = record {
  stand = record { each = All-append (Stands g) front back fore.stands.each aft.stands.each };
  alike = record { each = All-append (Alike z) front back (alike_copies z list front fore.alike alike).each (alike_copies z (replicate n z) back aft.alike (alike_replicate n z)).each };
  named = λ test p q. record { each = All-append (SlotsPass test) front back (fore.named test p).each (aft.named test (record { each = All-replicate (SlotsPass test) n z q })).each };
  value = λ h e.
      map-append (shape_value h e) front back
      ∙ (λ i. fore.value h e i ++ aft.value h e i)
      ∙ ap (λ l. shapes_value h e list ++ l) (map_replicate (shape_value h e) n z ∙ ap (λ k. replicate k (shape_value h e z)) wanting);
}

pub ruleset copies = (copies_none, copies_one_more)

pub ruleset whole = (Keeps-refl, padded)
