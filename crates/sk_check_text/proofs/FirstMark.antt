-- The first line between the parts of an input is what the reading byte by byte finds.
use Rattle.std.proofs.Common.{◌≡◌, ℕ, suc, ◌+◌, ◌≤◌, ◌⊎◌, inl, inr, Bool, true, false, cond, eqb, List, [], ◌∷◌, ◌++◌, length, take, drop, Some, None, refl, sym, ap, ap₂, subst, ◌∙◌, arith, codes}
use Rattle.std.specs.Str.{bytes_eq}
use Rattle.std.proofs.lemmas.Bool.{eqb-true}
use Rattle.std.proofs.lemmas.List.{take-append-drop}
use Rattle.std.proofs.Math.Seq.{take-append_seam}
use Rattle.std.proofs.lemmas.Slice.Eq.{bytes_eq-Decides}
use Rattle.sk_cert.specs.Departing.{AreLines}
use Rattle.sk_check_text.specs.Splitting.{mark, BeginsWithMark, HasMark, Splits}
use Rattle.sk_check_text.specs.Steps.{behind_feed, behind_mark, mark_at, found_or, first_mark}
use Rattle.sk_check_text.specs.Laws.{SplitsOnce, EachSplits}

some_none : {X : Type 0} {x : X} → None ≡ Some x → ⊥
some_none e = cc

some_same : {X : Type 0} {x y : X} → Some x ≡ Some y → x ≡ y
some_same e = cc

no_item : (xs : List ℕ) (y : ℕ) (ys : List ℕ) → [] ≡ xs ++ y ∷ ys → ⊥
no_item [] y ys e = cc
no_item (x ∷ xs) y ys e = cc

-- The mark

feed_begins : (text rest behind : List ℕ) → text ≡ mark ++ rest → behind_feed rest ≡ Some behind → BeginsWithMark text behind
feed_begins text [] behind is h = inr (is, sym (some_same h))
feed_begins text (b ∷ bs) behind is h =
    elim (eqb b 10) as (λ v. eqb b 10 ≡ v → cond v (Some bs) None ≡ Some behind → BeginsWithMark text behind) [
      | true ↦ λ f g. inl (is ∙ ap₂ (λ c cs. mark ++ c ∷ cs) (eqb-true b 10 f) (some_same g))
      | false ↦ λ f g. absurd (some_none g)
    ] refl h

mark_begins : (text behind : List ℕ) → behind_mark text ≡ Some behind → BeginsWithMark text behind
mark_begins text behind h =
    elim (bytes_eq (take 4 text) mark) as (λ v. bytes_eq (take 4 text) mark ≡ v → cond v (behind_feed (drop 4 text)) None ≡ Some behind → BeginsWithMark text behind) [
      | true ↦ λ f g. feed_begins text (drop 4 text) behind (sym (take-append-drop 4 text) ∙ ap (λ t. t ++ drop 4 text) ((bytes_eq-Decides (take 4 text) mark).0 f)) g
      | false ↦ λ f g. absurd (some_none g)
    ] refl h

begins_mark : (text behind : List ℕ) → BeginsWithMark text behind → behind_mark text ≡ Some behind
begins_mark text behind (inl is) = ap behind_mark is
begins_mark text behind (inr (is, none)) = ap behind_mark is ∙ ap Some (sym none)

one_behind : (text a b : List ℕ) → BeginsWithMark text a → BeginsWithMark text b → a ≡ b
one_behind text a b x y = some_same (sym (begins_mark text a x) ∙ begins_mark text b y)

first_byte : (text behind : List ℕ) → BeginsWithMark text behind → (more : List ℕ) × (text ≡ 47 ∷ more)
first_byte text behind (inl is) = (codes "/%%\n" ++ behind, is)
first_byte text behind (inr (is, none)) = (codes "/%%", is)

-- Lines from within a text: its first line may have begun before.

-- whole lines, or nothing where a line begins
abbrev pub EndsLine : Bool → List ℕ → Type 0
EndsLine starts front = ((front ≡ []) × (starts ≡ true)) ⊎ ((before : List ℕ) × (front ≡ before ++ codes "\n"))

pub record MarkFrom (starts : Bool) (text front behind : List ℕ) : Type 0 where
  lines : EndsLine starts front
  rest : List ℕ
  is : text ≡ front ++ rest
  begins : BeginsWithMark rest behind

from_whole : (input front behind : List ℕ) → HasMark input front behind → MarkFrom true input front behind
from_whole input front behind m = record { lines = lines m.lines; rest = m.rest; is = m.is; begins = m.begins }
  where
    lines : AreLines front → EndsLine true front
    lines (inl e) = inl (e, refl)
    lines (inr x) = inr x

to_whole : (input front behind : List ℕ) → MarkFrom true input front behind → HasMark input front behind
to_whole input front behind m = record { lines = lines m.lines; rest = m.rest; is = m.is; begins = m.begins }
  where
    lines : EndsLine true front → AreLines front
    lines (inl e) = inl e.0
    lines (inr x) = inr x

-- a byte more before

more_lines : (b : ℕ) (front : List ℕ) → EndsLine (eqb b 10) front → (before : List ℕ) × (b ∷ front ≡ before ++ codes "\n")
more_lines b front (inl (e, f)) = ([], ap₂ (λ c cs. c ∷ cs) (eqb-true b 10 f) e)
more_lines b front (inr (before, e)) = (b ∷ before, ap (λ cs. b ∷ cs) e)

more : (starts : Bool) (b : ℕ) (bs front behind : List ℕ) → MarkFrom (eqb b 10) bs front behind → MarkFrom starts (b ∷ bs) (b ∷ front) behind
more starts b bs front behind m = record { lines = inr (more_lines b front m.lines); rest = m.rest; is = ap (λ cs. b ∷ cs) m.is; begins = m.begins }

-- a byte less

less_lines : (starts : Bool) (b c : ℕ) (cs : List ℕ) → b ≡ c → EndsLine starts (c ∷ cs) → EndsLine (eqb b 10) cs
less_lines starts b c cs same (inl (e, f)) = absurd (cc)
less_lines starts b c cs same (inr ([], e)) = let f : c ≡ 10 = cc in let g : cs ≡ [] = cc in inl (g, ap (λ x. eqb x 10) (same ∙ f))
less_lines starts b c cs same (inr (d ∷ ds, e)) = let f : cs ≡ ds ++ 10 ∷ [] = cc in inr (ds, f)

less : (starts : Bool) (b : ℕ) (bs : List ℕ) (c : ℕ) (cs behind : List ℕ) → MarkFrom starts (b ∷ bs) (c ∷ cs) behind → MarkFrom (eqb b 10) bs cs behind
less starts b bs c cs behind m =
    let is : b ∷ bs ≡ c ∷ (cs ++ m.rest) = m.is in
    let same : b ≡ c = cc in
    let rest : bs ≡ cs ++ m.rest = cc in
    record { lines = less_lines starts b c cs same m.lines; rest = m.rest; is = rest; begins = m.begins }

-- where no mark is at the place, none is with nothing before it
not_here : (starts : Bool) (text behind : List ℕ) → mark_at starts text ≡ None → MarkFrom starts text [] behind → ⊥
not_here starts text behind none m = from m.lines
  where
    from : EndsLine starts [] → ⊥
    from (inl (e, f)) = some_none (sym (ap (λ s. mark_at s text) (sym f) ∙ none) ∙ ap behind_mark m.is ∙ begins_mark m.rest behind m.begins)
    from (inr (before, e)) = no_item before 10 [] e

-- What the reading finds

pub record Found (starts : Bool) (at : ℕ) (text : List ℕ) (n : ℕ) (behind : List ℕ) : Type 0 where
  front : List ℕ
  mark : MarkFrom starts text front behind
  number : n ≡ at + length front
  first : (other rest : List ℕ) → MarkFrom starts text other rest → length front ≤ length other

here : (starts : Bool) (at : ℕ) (text rest : List ℕ) (n : ℕ) (behind : List ℕ) → mark_at starts text ≡ Some rest → at ≡ n → rest ≡ behind → Found starts at text n behind
here false at text rest n behind f same is = absurd (some_none f)
here true at text rest n behind f same is = record {
  front = [];
  mark = record { lines = inl (refl, refl); rest = text; is = refl; begins = mark_begins text behind (f ∙ ap Some is) };
  number = omega (arith, same);
  first = λ other r m. omega arith;
}

later : (starts : Bool) (at b : ℕ) (bs : List ℕ) (n : ℕ) (behind : List ℕ) → mark_at starts (b ∷ bs) ≡ None → Found (eqb b 10) (at + 1) bs n behind → Found starts at (b ∷ bs) n behind
later starts at b bs n behind none found = record {
  front = b ∷ found.front;
  mark = more starts b bs found.front behind found.mark;
  number = let k : n ≡ (at + 1) + length found.front = found.number in omega (arith, k);
  first = behind_it;
}
  where
    behind_it : (other rest : List ℕ) → MarkFrom starts (b ∷ bs) other rest → suc (length found.front) ≤ length other
    behind_it [] rest m = absurd (not_here starts (b ∷ bs) rest none m)
    behind_it (c ∷ cs) rest m = let k : length found.front ≤ length cs = found.first cs rest (less starts b bs c cs rest m) in omega (arith, k)

pub first_found : (starts : Bool) (at : ℕ) (text : List ℕ) (n : ℕ) (behind : List ℕ) → first_mark starts at text ≡ Some (n, behind) → Found starts at text n behind
first_found starts at [] n behind e = absurd (some_none e)
first_found starts at (b ∷ bs) n behind e =
    elim (mark_at starts (b ∷ bs)) as (λ v. mark_at starts (b ∷ bs) ≡ v → found_or v at (first_mark (eqb b 10) (at + 1) bs) ≡ Some (n, behind) → Found starts at (b ∷ bs) n behind) [
      | Some rest ↦ λ f h. let g : (at, rest) ≡ (n, behind) = some_same h in here starts at (b ∷ bs) rest n behind f (ap (λ x. x.0) g) (ap (λ x. x.1) g)
      | None ↦ λ f h. later starts at b bs n behind f (first_found (eqb b 10) (at + 1) bs n behind h)
    ] refl e

not_later : (starts : Bool) (b : ℕ) (bs front behind : List ℕ) → mark_at starts (b ∷ bs) ≡ None → MarkFrom starts (b ∷ bs) front behind → ((other rest : List ℕ) → MarkFrom (eqb b 10) bs other rest → ⊥) → ⊥
not_later starts b bs [] behind f m none = not_here starts (b ∷ bs) behind f m
not_later starts b bs (c ∷ cs) behind f m none = none cs behind (less starts b bs c cs behind m)

none_found : (starts : Bool) (at : ℕ) (text : List ℕ) → first_mark starts at text ≡ None → (front behind : List ℕ) → MarkFrom starts text front behind → ⊥
none_found starts at [] e front behind m =
    let byte = first_byte m.rest behind m.begins in
    no_item front 47 byte.0 (m.is ∙ ap (λ r. front ++ r) byte.1)
none_found starts at (b ∷ bs) e front behind m =
    elim (mark_at starts (b ∷ bs)) as (λ v. mark_at starts (b ∷ bs) ≡ v → found_or v at (first_mark (eqb b 10) (at + 1) bs) ≡ None → ⊥) [
      | Some rest ↦ λ f h. some_none (sym h)
      | None ↦ λ f h. not_later starts b bs front behind f m (none_found (eqb b 10) (at + 1) bs h)
    ] refl e

-- The parts of an input

pub found_splits : (input : List ℕ) (n : ℕ) (behind : List ℕ) → first_mark true 0 input ≡ Some (n, behind) → Splits input (take n input) behind
found_splits input n behind e =
    let found = first_found true 0 input n behind e in
    let number = found.number in
    let n_is : n ≡ length found.front = omega (arith, number) in
    let front_is : take n input ≡ found.front = ap₂ take n_is found.mark.is ∙ take-append_seam found.front found.mark.rest in
    subst (λ s. Splits input s behind) (sym front_is)
    (inl (record { mark = to_whole input found.front behind found.mark; first = λ front rest m. found.first front rest (from_whole input front rest m) }))

pub found_within : (input : List ℕ) (n : ℕ) (behind : List ℕ) → first_mark true 0 input ≡ Some (n, behind) → n ≤ length input
found_within input n behind e =
    let found = first_found true 0 input n behind e in
    let number = found.number in
    let n_is : n ≡ length found.front = omega (arith, number) in
    subst (λ k. k ≤ length input) (sym n_is) (subst (λ t. length found.front ≤ length t) (sym found.mark.is) (front_within found.front found.mark.rest))
  where
    front_within : (xs ys : List ℕ) → length xs ≤ length (xs ++ ys)
    front_within [] ys = omega arith
    front_within (x ∷ xs) ys = let k = front_within xs ys in omega (arith, k)

pub whole_splits : (input : List ℕ) → first_mark true 0 input ≡ None → Splits input input []
whole_splits input e = inr (record { none = λ front rest m. none_found true 0 input e front rest (from_whole input front rest m); all = refl; nothing = refl })

-- Laws

same_front : (a b x y : List ℕ) → length a ≡ length b → a ++ x ≡ b ++ y → (a ≡ b) × (x ≡ y)
same_front [] [] x y same e = (refl, e)
same_front [] (c ∷ cs) x y same e = absurd (omega (arith, same))
same_front (b ∷ bs) [] x y same e = absurd (omega (arith, same))
same_front (b ∷ bs) (c ∷ cs) x y same e =
    let first : b ≡ c = cc in
    let rest : bs ++ x ≡ cs ++ y = cc in
    let len : length bs ≡ length cs = omega (arith, same) in
    let k = same_front bs cs x y len rest in
    (ap₂ (λ d ds. d ∷ ds) first k.0, k.1)

pub splits_once : SplitsOnce
splits_once input s a t b (inl x) (inl y) =
    let up : length s ≤ length t = x.first t b y.mark in
    let down : length t ≤ length s = y.first s a x.mark in
    let k = same_front s t x.mark.rest y.mark.rest (omega (arith, up, down)) (sym x.mark.is ∙ y.mark.is) in
    (k.0, one_behind y.mark.rest a b (subst (λ r. BeginsWithMark r a) k.1 x.mark.begins) y.mark.begins)
splits_once input s a t b (inl x) (inr y) = absurd (y.none s a x.mark)
splits_once input s a t b (inr x) (inl y) = absurd (x.none t b y.mark)
splits_once input s a t b (inr x) (inr y) = (x.all ∙ sym y.all, x.nothing ∙ sym y.nothing)

pub each_splits : EachSplits
each_splits input =
    elim (first_mark true 0 input) as (λ v. first_mark true 0 input ≡ v → (sketch behind : List ℕ) × Splits input sketch behind) [
      | Some x ↦ λ e. (take x.0 input, x.1, found_splits input x.0 x.1 e)
      | None ↦ λ e. (input, [], whole_splits input e)
    ] refl

-- what stands behind the mark is no longer than the input
pub behind_within : (input sketch behind : List ℕ) → Splits input sketch behind → length behind ≤ length input
behind_within input sketch behind (inl x) =
    subst (λ t. length behind ≤ length t) (sym x.mark.is) (within_front sketch x.mark.rest (within_mark x.mark.rest x.mark.begins))
  where
    within_mark : (rest : List ℕ) → BeginsWithMark rest behind → length behind ≤ length rest
    within_mark rest (inl is) = subst (λ t. length behind ≤ length t) (sym is) (omega arith)
    within_mark rest (inr (is, none)) = subst (λ t. length t ≤ length rest) (sym none) (omega arith)

    within_front : (xs ys : List ℕ) → length behind ≤ length ys → length behind ≤ length (xs ++ ys)
    within_front [] ys h = h
    within_front (x ∷ xs) ys h = let k : length behind ≤ length (xs ++ ys) = within_front xs ys h in omega (arith, k)
behind_within input sketch behind (inr x) = subst (λ t. length t ≤ length input) (sym x.nothing) (omega arith)
