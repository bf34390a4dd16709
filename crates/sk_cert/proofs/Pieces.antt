-- Pieces with one byte between them, and functions that answer what each piece writes.
use Rattle.std.proofs.Common.{◌≡◌, ◌≢◌, ◌∙◌, ◌++◌, ◌∷◌, ◌<◌, ◌≤◌, ℕ, false, List, [], length, map, refl, sym, ap, subst, arith, eqb}
use Rattle.std.specs.Prelude.{Option, Some, None, All}
use Rattle.std.specs.List.{slice_split, flat_map, join_with_byte}
use Rattle.std.proofs.lemmas.Bool.{ne_eqb, eq-eqb}
use Rattle.std.proofs.lemmas.List.{append-nil}
use Rattle.std.proofs.lemmas.List.Splits.{join_with_byte-slice_split, slice_split_none, slice_split_at, length-slice_split}
use Rattle.std.proofs.lemmas.List.Elements.{All-nil, All-cons, All-head, All-tail, All-weaker, All-append}
use Rattle.sk_cert.specs.Words.{both, all_of}

-- pieces behind the first, with a byte before each
abbrev pub others : ℕ → List (List ℕ) → List ℕ
others c ws = flat_map (λ v. c ∷ v) ws

pub split_join : (c : ℕ) (w : List ℕ) (ws : List (List ℕ)) → All (λ b. b ≢ c) w → All (All (λ b. b ≢ c)) ws → slice_split (λ b. eqb b c) (w ++ others c ws) ≡ w ∷ ws
split_join c w [] h k =
    ap (slice_split (λ b. eqb b c)) (append-nil w)
    ∙ slice_split_none (λ b. eqb b c) w (All-weaker (λ b. b ≢ c) (λ b. eqb b c ≡ false) (λ b n. ne_eqb b c n) w h)
split_join c w (v ∷ vs) h k =
    slice_split_at (λ b. eqb b c) w c (v ++ others c vs) (All-weaker (λ b. b ≢ c) (λ b. eqb b c ≡ false) (λ b n. ne_eqb b c n) w h) (eq-eqb c c refl)
    ∙ ap (λ t. w ∷ t) (split_join c v vs (All-head (All (λ b. b ≢ c)) v vs k) (All-tail (All (λ b. b ≢ c)) v vs k))

join_is : (c : ℕ) (w : List ℕ) (ws : List (List ℕ)) → join_with_byte c (w ∷ ws) ≡ w ++ others c ws
join_is c w [] = sym (append-nil w)
join_is c w (v ∷ vs) = ap (λ t. w ++ c ∷ t) (join_is c v vs)

pub unsplit : (c : ℕ) (bs w : List ℕ) (ws : List (List ℕ)) → slice_split (λ b. eqb b c) bs ≡ w ∷ ws → bs ≡ w ++ others c ws
unsplit c bs w ws h = sym (join_with_byte-slice_split c bs) ∙ ap (join_with_byte c) h ∙ join_is c w ws

pub some_piece : (c : ℕ) (bs : List ℕ) → slice_split (λ b. eqb b c) bs ≡ [] → ⊥
some_piece c bs h = let n = length-slice_split (λ b. eqb b c) bs in let z : length (slice_split (λ b. eqb b c) bs) ≡ 0 = ap length h in absurd (omega arith)

pub others_high : (c m : ℕ) (ws : List (List ℕ)) → m < c → All (All (λ b. m < b)) ws → All (λ b. m < b) (others c ws)
others_high c m [] h k = All-nil (λ b. m < b)
others_high c m (w ∷ ws) h k =
    All-cons (λ b. m < b) c (w ++ others c ws) h
    (All-append (λ b. m < b) w (others c ws) (All-head (All (λ b. m < b)) w ws k) (others_high c m ws h (All-tail (All (λ b. m < b)) w ws k)))

-- bytes past m are none up to m
pub high_not : (c m : ℕ) (w : List ℕ) → c ≤ m → All (λ b. m < b) w → All (λ b. b ≢ c) w
high_not c m w h k = All-weaker (λ b. m < b) (λ b. b ≢ c) (λ b l e. absurd (omega arith)) w k

pub higher : (c m : ℕ) (w : List ℕ) → c ≤ m → All (λ b. m < b) w → All (λ b. c < b) w
higher c m w h k = All-weaker (λ b. m < b) (λ b. c < b) (λ b l. omega arith) w k

-- The function answers exactly what each word writes, and words are without blanks.
pub record Tells {A : Type 0} (f : List ℕ → Option A) (write : A → List ℕ) (ok : A → Type 0) : Type 0 where
  pub told : (w : List ℕ) (a : A) → f w ≡ Some a → ok a × (w ≡ write a)
  pub tells : (a : A) → ok a → f (write a) ≡ Some a
  pub plain : (a : A) → ok a → All (λ b. 32 < b) (write a)

pub all_told : {A : Type 0} (f : List ℕ → Option A) (write : A → List ℕ) (ok : A → Type 0) → Tells f write ok → (ws : List (List ℕ)) (as' : List A) → all_of f ws ≡ Some as' → All ok as' × (ws ≡ map write as')
all_told {A} f write ok t [] as' h =
    let e : [] ≡ as' = cc in
    subst (λ (x : List A). All ok x × ([] ≡ map write x)) e (All-nil ok, refl)
all_told {A} f write ok t (w ∷ ws) as' h = from (λ bs k. all_told f write ok t ws bs k) (f w) refl (all_of f ws) refl h
  where
    from : ((bs : List A) → all_of f ws ≡ Some bs → All ok bs × (ws ≡ map write bs)) → (o : Option A) → f w ≡ o → (p : Option (List A)) → all_of f ws ≡ p → both o p ≡ Some as' → All ok as' × (w ∷ ws ≡ map write as')
    from ih None is p rest h = absurd (cc)
    from ih (Some a) is None rest h = absurd (cc)
    from ih (Some a) is (Some bs) rest h =
        let k = t.told w a is in
        let l = ih bs rest in
        let e : a ∷ bs ≡ as' = cc in
        subst (λ (x : List A). All ok x × (w ∷ ws ≡ map write x)) e (All-cons ok a bs k.0 l.0, ap (λ x. x ∷ ws) k.1 ∙ ap (λ xs. write a ∷ xs) l.1)

pub all_tells : {A : Type 0} (f : List ℕ → Option A) (write : A → List ℕ) (ok : A → Type 0) → Tells f write ok → (as' : List A) → All ok as' → all_of f (map write as') ≡ Some as'
all_tells f write ok t [] h = refl
all_tells {A} f write ok t (a ∷ as') h =
    ap (λ o. both o (all_of f (map write as'))) (t.tells a (All-head ok a as' h))
    ∙ ap (both (Some a)) (all_tells f write ok t as' (All-tail ok a as' h))

pub all_plain : {A : Type 0} (f : List ℕ → Option A) (write : A → List ℕ) (ok : A → Type 0) → Tells f write ok → (as' : List A) → All ok as' → All (All (λ b. 32 < b)) (map write as')
all_plain f write ok t [] h = All-nil (All (λ b. 32 < b))
all_plain f write ok t (a ∷ as') h =
    All-cons (All (λ b. 32 < b)) (write a) (map write as') (t.plain a (All-head ok a as' h)) (all_plain f write ok t as' (All-tail ok a as' h))
