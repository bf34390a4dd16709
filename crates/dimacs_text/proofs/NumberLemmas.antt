-- How numbers stand for clauses, and words for numbers.
use Rattle.std.proofs.Common.{◌≡◌, ◌≢◌, ℕ, zero, suc, ◌+◌, ◌<◌, ◌++◌, Bool, true, false, not, List, [], ◌∷◌, length, map, refl, sym, ◌∙◌, ap, arith, subst}
use Rattle.std.specs.Prelude.{ℤ, pos, negsuc, Option, Some, None, All, IfSome, if◌then◌else◌}
use Rattle.std.proofs.lemmas.List.{append-nil, append_assoc, map_push}
use Rattle.std.proofs.lemmas.List.Elements.{All-nil, All-cons, All-head, All-tail, All-push}
use Rattle.sk_clause.specs.declared.lit.Lit.{Lit}
use Rattle.sk_clause.specs.Problem.{IsWithin, AreWithin}
use Rattle.dimacs_text.specs.Formula.{Text, Writes, Spells, numbers, lit_number, IsAllowed, AreAllowed}

signed_nonzero : (b : Bool) (v : ℕ) → (if b then negsuc v else pos (v + 1)) ≡ pos 0 → ⊥
signed_nonzero true v e = cc
signed_nonzero false v e = let f : v + 1 ≡ 0 = cc in omega arith

nonzero : (l : Lit) → lit_number l ≡ pos 0 → ⊥
nonzero l e = signed_nonzero l.neg l.var e

signed_same : (a b : Bool) (v w : ℕ) → (if a then negsuc v else pos (v + 1)) ≡ (if b then negsuc w else pos (w + 1)) → (a ≡ b) × (v ≡ w)
signed_same true true v w e = let f : v ≡ w = cc in (refl, f)
signed_same true false v w e = absurd cc
signed_same false true v w e = absurd cc
signed_same false false v w e = let f : v + 1 ≡ w + 1 = cc in (refl, omega arith)

abbrev lit_with : ℕ → Bool → Lit
lit_with v n = record { var = v; neg = n }

lit_same : (l m : Lit) → lit_number l ≡ lit_number m → l ≡ m
lit_same l m e =
    let r = signed_same l.neg m.neg l.var m.var e in
    ap (λ v. lit_with v l.neg) r.1 ∙ ap (λ n. lit_with m.var n) r.0

-- ---- the numbers of clauses
numbers_push : (cs : List (List Lit)) (c : List Lit) → numbers (cs ++ c ∷ []) ≡ numbers cs ++ (map lit_number c ++ pos 0 ∷ [])
numbers_push [] c = refl
numbers_push (d ∷ cs) c =
    ap (λ x. map lit_number d ++ (pos 0 ∷ x)) (numbers_push cs c)
    ∙ sym (append_assoc (map lit_number d) (pos 0 ∷ numbers cs) (map lit_number c ++ pos 0 ∷ []))

-- one literal more
pub numbers_lit : (done : List (List Lit)) (begun : List Lit) (l : Lit) → (numbers done ++ map lit_number begun) ++ lit_number l ∷ [] ≡ numbers done ++ map lit_number (begun ++ l ∷ [])
numbers_lit done begun l =
    append_assoc (numbers done) (map lit_number begun) (lit_number l ∷ [])
    ∙ ap (λ x. numbers done ++ x) (sym (map_push lit_number begun l))

-- the end of a clause
pub numbers_end : (done : List (List Lit)) (begun : List Lit) → (numbers done ++ map lit_number begun) ++ pos 0 ∷ [] ≡ numbers (done ++ begun ∷ []) ++ map lit_number []
numbers_end done begun =
    append_assoc (numbers done) (map lit_number begun) (pos 0 ∷ [])
    ∙ sym (numbers_push done begun)
    ∙ sym (append-nil (numbers (done ++ begun ∷ [])))

-- the first 0 tells two clauses apart
lits_split : (a b : List Lit) (x y : List ℤ) → map lit_number a ++ pos 0 ∷ x ≡ map lit_number b ++ pos 0 ∷ y → (a ≡ b) × (x ≡ y)
lits_split [] [] x y e = let f : x ≡ y = cc in (refl, f)
lits_split [] (m ∷ b) x y e = let f : lit_number m ≡ pos 0 = cc in absurd (nonzero m f)
lits_split (l ∷ a) [] x y e = let f : lit_number l ≡ pos 0 = cc in absurd (nonzero l f)
lits_split (l ∷ a) (m ∷ b) x y e =
    let f : lit_number l ≡ lit_number m = cc in
    let g : map lit_number a ++ pos 0 ∷ x ≡ map lit_number b ++ pos 0 ∷ y = cc in
    let r = lits_split a b x y g in
    let h : l ≡ m = lit_same l m f in
    let k : a ≡ b = r.0 in
    let s : l ∷ a ≡ m ∷ b = cc in
    (s, r.1)

some_number : (d : List Lit) (x t : List ℤ) → [] ≡ (map lit_number d ++ pos 0 ∷ x) ++ t → ⊥
some_number [] x t e = cc
some_number (l ∷ d) x t e = cc

-- clauses whose numbers come first come first
pub numbers_front : (ms done : List (List Lit)) (t : List ℤ) → numbers ms ≡ numbers done ++ t → (rest : List (List Lit)) × (ms ≡ done ++ rest) × (t ≡ numbers rest)
numbers_front ms [] t e = (ms, refl, sym e)
numbers_front [] (d ∷ ds) t e = absurd (some_number d (numbers ds) t e)
numbers_front (m ∷ ms) (d ∷ ds) t e =
    let r = lits_split m d (numbers ms) (numbers ds ++ t) (e ∙ append_assoc (map lit_number d) (pos 0 ∷ numbers ds) t) in
    let q = numbers_front ms ds t r.1 in
    let a : m ≡ d = r.0 in
    let b : ms ≡ ds ++ q.0 = q.1 in
    let s : m ∷ ms ≡ d ∷ (ds ++ q.0) = cc in
    (q.0, s, q.2)

-- clauses with the same numbers are the same
pub numbers_same : (cs ds : List (List Lit)) → numbers cs ≡ numbers ds → cs ≡ ds
numbers_same [] [] e = refl
numbers_same [] (d ∷ ds) e = absurd (some_number d (numbers ds) [] (e ∙ sym (append-nil (map lit_number d ++ pos 0 ∷ numbers ds))))
numbers_same (c ∷ cs) [] e = absurd (some_number c (numbers cs) [] (sym e ∙ sym (append-nil (map lit_number c ++ pos 0 ∷ numbers cs))))
numbers_same (c ∷ cs) (d ∷ ds) e =
    let r = lits_split c d (numbers cs) (numbers ds) e in
    let a : c ≡ d = r.0 in
    let b : cs ≡ ds = numbers_same cs ds r.1 in
    cc

-- literals alone end no clause
no_end : (b c : List Lit) (x : List ℤ) → map lit_number b ≡ map lit_number c ++ pos 0 ∷ x → ⊥
no_end [] [] x e = cc
no_end [] (l ∷ c) x e = cc
no_end (m ∷ b) [] x e = let f : lit_number m ≡ pos 0 = cc in nonzero m f
no_end (m ∷ b) (l ∷ c) x e = let f : map lit_number b ≡ map lit_number c ++ pos 0 ∷ x = cc in no_end b c x f

pub none_begun : (b : List Lit) (rest : List (List Lit)) → map lit_number b ≡ numbers rest → b ≡ []
none_begun [] rest e = refl
none_begun (m ∷ b) [] e = absurd cc
none_begun (m ∷ b) (c ∷ cs) e = absurd (no_end (m ∷ b) c (numbers cs) e)

-- ---- limits
within_front : (n : ℕ) (b c : List Lit) (t x : List ℤ) → map lit_number b ++ t ≡ map lit_number c ++ pos 0 ∷ x → IsWithin n c → IsWithin n b
within_front n [] c t x e h = All-nil (λ l. l.var < n)
within_front n (l ∷ b) [] t x e h = let f : lit_number l ≡ pos 0 = cc in absurd (nonzero l f)
within_front n (l ∷ b) (m ∷ c) t x e h =
    let f : lit_number l ≡ lit_number m = cc in
    let g : map lit_number b ++ t ≡ map lit_number c ++ pos 0 ∷ x = cc in
    let s : m ≡ l = sym (lit_same l m f) in
    let P : Lit → Type 0 = λ k. k.var < n in
    All-cons P l b (subst P s (All-head P m c h)) (within_front n b c t x g (All-tail P m c h))

within_begun : (n : ℕ) (rest : List (List Lit)) (b : List Lit) (t : List ℤ) → map lit_number b ++ t ≡ numbers rest → AreWithin n rest → IsWithin n b
within_begun n rest [] t e h = All-nil (λ l. l.var < n)
within_begun n [] (l ∷ b) t e h = absurd cc
within_begun n (c ∷ cs) (l ∷ b) t e h = within_front n (l ∷ b) c t (numbers cs) e (All-head (IsWithin n) c cs h)

within_right : (n : ℕ) (cs ds : List (List Lit)) → AreWithin n (cs ++ ds) → AreWithin n ds
within_right n [] ds h = h
within_right n (c ∷ cs) ds h = within_right n cs ds (All-tail (IsWithin n) c (cs ++ ds) h)

pub begun_allowed : (limit : Option ℕ) (done rest : List (List Lit)) (b : List Lit) (t : List ℤ) → map lit_number b ++ t ≡ numbers rest → AreAllowed limit (done ++ rest) → IsAllowed limit b
begun_allowed None done rest b t e h = tt
begun_allowed (Some n) done rest b t e h = within_begun n rest b t e (within_right n done rest h)

pub none_allowed : (limit : Option ℕ) → IsAllowed limit []
none_allowed None = tt
none_allowed (Some n) = All-nil (λ l. l.var < n)

pub no_clauses_allowed : (limit : Option ℕ) → AreAllowed limit []
no_clauses_allowed None = tt
no_clauses_allowed (Some n) = All-nil (IsWithin n)

pub lit_allowed : (limit : Option ℕ) (b : List Lit) (l : Lit) → IsAllowed limit b → IfSome limit (λ n. l.var < n) → IsAllowed limit (b ++ l ∷ [])
lit_allowed None b l h k = tt
lit_allowed (Some n) b l h k = All-push (λ m. m.var < n) b l h k

pub last_allowed : (limit : Option ℕ) (b : List Lit) (l : Lit) → IsAllowed limit (b ++ l ∷ []) → IfSome limit (λ n. l.var < n)
last_allowed None b l h = tt
last_allowed (Some n) b l h = Rattle.std.proofs.lemmas.List.Elements.All-contains (λ m. m.var < n) (b ++ l ∷ []) l h (Rattle.std.proofs.lemmas.List.Elements.Contains-push b l)

pub clause_allowed : (limit : Option ℕ) (cs : List (List Lit)) (c : List Lit) → AreAllowed limit cs → IsAllowed limit c → AreAllowed limit (cs ++ c ∷ [])
clause_allowed None cs c h k = tt
clause_allowed (Some n) cs c h k = All-push (IsWithin n) cs c h k

-- ---- words
pub writes_same : (w : Text) (y z : ℤ) → Writes w y → Writes w z → y ≡ z
writes_same w y z a b = a.value ∙ sym b.value

pub spells_push : (ws : List Text) (zs : List ℤ) (w : Text) (z : ℤ) → Spells ws zs → Writes w z → Spells (ws ++ w ∷ []) (zs ++ z ∷ [])
spells_push [] [] w z h k = (k, tt)
spells_push [] (y ∷ zs) w z h k = absurd h
spells_push (v ∷ ws) [] w z h k = absurd h
spells_push (v ∷ ws) (y ∷ zs) w z h k = (h.0, spells_push ws zs w z h.1 k)

-- what the first words write comes first
pub spells_split : (ws vs : List Text) (zs ms : List ℤ) → Spells (ws ++ vs) ms → Spells ws zs → (t : List ℤ) × (ms ≡ zs ++ t) × Spells vs t
spells_split [] vs [] ms h k = (ms, refl, h)
spells_split [] vs (z ∷ zs) ms h k = absurd k
spells_split (w ∷ ws) vs [] ms h k = absurd k
spells_split (w ∷ ws) vs (z ∷ zs) [] h k = absurd h
spells_split (w ∷ ws) vs (z ∷ zs) (m ∷ ms) h k =
    let r = spells_split ws vs zs ms h.1 k.1 in
    let a : m ≡ z = writes_same w m z h.0 k.0 in
    let b : ms ≡ zs ++ r.0 = r.1 in
    let s : m ∷ ms ≡ z ∷ (zs ++ r.0) = cc in
    (r.0, s, r.2)

pub spells_same : (ws : List Text) (zs ms : List ℤ) → Spells ws zs → Spells ws ms → zs ≡ ms
spells_same [] [] [] h k = refl
spells_same [] [] (m ∷ ms) h k = absurd k
spells_same [] (z ∷ zs) ms h k = absurd h
spells_same (w ∷ ws) [] ms h k = absurd h
spells_same (w ∷ ws) (z ∷ zs) [] h k = absurd k
spells_same (w ∷ ws) (z ∷ zs) (m ∷ ms) h k =
    let a : z ≡ m = writes_same w z m h.0 k.0 in
    let b : zs ≡ ms = spells_same ws zs ms h.1 k.1 in
    cc

pub first_writes : (w : Text) (more : List Text) (t : List ℤ) → Spells (w ∷ more) t → (z : ℤ) × Writes w z
first_writes w more [] h = absurd h
first_writes w more (z ∷ t) h = (z, h.0)
