-- Lines of words, and what each line writes.
use Rattle.std.proofs.Common.{◌≡◌, ◌≢◌, ◌∙◌, ◌++◌, ◌∷◌, ◌<◌, ◌^◌, ◌&&◌, ◌⊎◌, ℕ, Bool, true, false, List, [], map, refl, sym, ap, subst, arith, cond, eqb, ltb, inl, inr}
use Rattle.std.specs.Prelude.{Option, Some, None, All, codes, ℤ, option_and_then}
use Rattle.std.specs.Str.{bytes_eq}
use Rattle.std.specs.Fmt.{decimal}
use Rattle.std.specs.List.{list_all}
use Rattle.std.proofs.lemmas.Bool.{ltb-true, eqb-true, eq-eqb}
use Rattle.std.proofs.lemmas.Slice.Eq.{bytes_eq-Decides}
use Rattle.std.proofs.lemmas.List.Elements.{All-nil, All-cons, All-head, All-tail, All-weaker, All-append}
use Rattle.sk_cert.specs.declared.certificate.CertInput.{CertInput}
use Rattle.sk_cert.specs.declared.lines.Sizes.{Sizes}
use Rattle.sk_cert.specs.Words.{words, behind, all_of, number_of, variable_of, literal_of, argument_of, numbers_in, only, number_in, known_version, version_in, input_from, input_in, sizes_from, sizes_behind, sizes_in, names_in, clause_in}
use Rattle.sk_cert.specs.Certificates.{marked, argument_text, input_words, literal_text, variable_text}
use Rattle.sk_cert.proofs.Exact.{IsLine}
use Rattle.sk_cert.proofs.OneLine.{Spells, Takes, spells_then}
use Rattle.sk_cert.proofs.Numbers.{number_spelt, number_found, cond_some, both_true}
use Rattle.sk_cert.proofs.Pieces.{others, split_join, unsplit, others_high, high_not, higher, Tells, all_told, all_tells, all_plain}
use Rattle.sk_cert.proofs.Scalars.{tells_number, tells_variable, tells_literal, tells_argument, IsArgument}

pub same_bytes : (a b : List ℕ) → bytes_eq a b ≡ true → a ≡ b
same_bytes a b h = (bytes_eq-Decides a b).0 h

pub bytes_same : (a : List ℕ) → bytes_eq a a ≡ true
bytes_same a = (bytes_eq-Decides a a).1 refl

-- bytes that are past a blank
abbrev pub IsPlain : List ℕ → Type 0
IsPlain w = All (λ b. 32 < b) w

pub plain_by : (w : List ℕ) → list_all (λ b. ltb 32 b) w ≡ true → IsPlain w
plain_by [] h = All-nil (λ b. 32 < b)
plain_by (b ∷ bs) h =
    let k = both_true (ltb 32 b) (list_all (λ c. ltb 32 c) bs) h in
    All-cons (λ c. 32 < c) b bs (ltb-true 32 b k.0) (plain_by bs k.1)

-- bytes that are none of the controls
pub line_by : (w : List ℕ) → list_all (λ b. ltb 31 b) w ≡ true → IsLine w
line_by w h = high_not 10 31 w (omega arith) (high w h)
  where
    high : (v : List ℕ) → list_all (λ b. ltb 31 b) v ≡ true → All (λ b. 31 < b) v
    high [] k = All-nil (λ b. 31 < b)
    high (b ∷ bs) k =
        let t = both_true (ltb 31 b) (list_all (λ c. ltb 31 c) bs) k in
        All-cons (λ c. 31 < c) b bs (ltb-true 31 b t.0) (high bs t.1)

behind_is : (kind : List ℕ) (ws rest : List (List ℕ)) → behind kind ws ≡ Some rest → ws ≡ codes "//@" ∷ kind ∷ rest
unfolding behind
behind_is kind [] rest h = absurd (cc)
behind_is kind (m ∷ []) rest h = absurd (cc)
behind_is kind (m ∷ k ∷ ws) rest h =
    let c = cond_some (bytes_eq m (codes "//@") && bytes_eq k kind) ws rest h in
    let t = both_true (bytes_eq m (codes "//@")) (bytes_eq k kind) c.0 in
    ap (λ x. x ∷ k ∷ ws) (same_bytes m (codes "//@") t.0) ∙ ap (λ x. codes "//@" ∷ x ∷ ws) (same_bytes k kind t.1) ∙ ap (λ x. codes "//@" ∷ kind ∷ x) c.1

behind_found : (kind : List ℕ) (rest : List (List ℕ)) → behind kind (codes "//@" ∷ kind ∷ rest) ≡ Some rest
unfolding behind
behind_found kind rest = ap (λ b. cond b (Some rest) None) (bytes_same kind)

marked_words : (kind : List ℕ) (ws : List (List ℕ)) → IsPlain kind → All IsPlain ws → words (marked kind ws) ≡ codes "//@" ∷ kind ∷ ws
marked_words kind ws h k =
    split_join 32 (codes "//@") (kind ∷ ws) (high_not 32 32 (codes "//@") (omega arith) (plain_by (codes "//@") refl))
    (All-cons (All (λ b. b ≢ 32)) kind ws (high_not 32 32 kind (omega arith) h) (All-weaker IsPlain (All (λ b. b ≢ 32)) (λ w p. high_not 32 32 w (omega arith) p) ws k))

marked_line : (kind : List ℕ) (ws : List (List ℕ)) → IsPlain kind → All IsPlain ws → IsLine (marked kind ws)
marked_line kind ws h k =
    high_not 10 31 (marked kind ws) (omega arith)
    (All-append (λ b. 31 < b) (codes "//@") (others 32 (kind ∷ ws))
    (higher 31 32 (codes "//@") (omega arith) (plain_by (codes "//@") refl))
    (others_high 32 31 (kind ∷ ws) (omega arith) (All-cons (All (λ b. 31 < b)) kind ws (higher 31 32 kind (omega arith) h) (All-weaker IsPlain (All (λ b. 31 < b)) (λ w p. higher 31 32 w (omega arith) p) ws k))))

-- The function answers exactly what the words behind a kind write.
pub record Writes {A : Type 0} (f : List (List ℕ) → Option A) (write : A → List (List ℕ)) (ok : A → Type 0) : Type 0 where
  pub told : (ws : List (List ℕ)) (a : A) → f ws ≡ Some a → ok a × (ws ≡ write a)
  pub tells : (a : A) → ok a → f (write a) ≡ Some a
  pub plain : (a : A) → ok a → All IsPlain (write a)
  pub some : A
  pub fits : ok some

pub spells_marked : {A : Type 0} (kind : List ℕ) (f : List (List ℕ) → Option A) (write : A → List (List ℕ)) (ok : A → Type 0) → IsPlain kind → Writes f write ok → Spells (λ l. option_and_then f (behind kind (words l))) (λ a. marked kind (write a)) ok
spells_marked {A} kind f write ok plain s = record {
  spelt = λ l a h. spelt_from l a (behind kind (words l)) refl h;
  found = λ a k.
      ap (λ ws. option_and_then f (behind kind ws)) (marked_words kind (write a) plain (s.plain a k))
      ∙ ap (option_and_then f) (behind_found kind (write a))
      ∙ s.tells a k;
  clean = λ a k. marked_line kind (write a) plain (s.plain a k);
  some = s.some;
  fits = s.fits;
}
  where
    spelt_from : (l : List ℕ) (a : A) (o : Option (List (List ℕ))) → behind kind (words l) ≡ o → option_and_then f o ≡ Some a → ok a × (l ≡ marked kind (write a))
    spelt_from l a None is h = absurd (cc)
    spelt_from l a (Some ws) is h =
        let k = s.told ws a h in
        (k.0, unsplit 32 l (codes "//@") (kind ∷ ws) (behind_is kind (words l) ws is) ∙ ap (marked kind) k.1)

writes_all : {A : Type 0} (f : List ℕ → Option A) (write : A → List ℕ) (ok : A → Type 0) → Tells f write ok → Writes (all_of f) (map write) (All ok)
writes_all {A} f write ok t = record {
  told = λ ws as' h. all_told f write ok t ws as' h;
  tells = λ as' k. all_tells f write ok t as' k;
  plain = λ as' k. all_plain f write ok t as' k;
  some = [];
  fits = All-nil ok;
}

-- Numbers

abbrev pub IsSmall : ℕ → Type 0
IsSmall n = n < 2 ^ 64

pub spells_numbers : (kind : List ℕ) → IsPlain kind → Spells (numbers_in kind) (λ ns. marked kind (map decimal ns)) (All IsSmall)
unfolding numbers_in
spells_numbers kind plain = spells_marked kind (all_of number_of) (map decimal) (All IsSmall) plain (writes_all number_of decimal IsSmall tells_number)

takes_only : Takes only (λ n. n ∷ []) (All IsSmall) IsSmall
takes_only = record {
  took = λ ns n k h. took_from ns n k h;
  good = λ n k. All-cons IsSmall n [] k (All-nil IsSmall);
  takes = λ n k. refl;
  some = 0;
  fits = omega arith;
}
  where
    took_from : (ns : List ℕ) (n : ℕ) → All IsSmall ns → only ns ≡ Some n → IsSmall n × (ns ≡ n ∷ [])
    took_from [] n k h = absurd (cc)
    took_from (m ∷ []) n k h = let e : m ≡ n = cc in (subst IsSmall e (All-head IsSmall m [] k), ap (λ x. x ∷ []) e)
    took_from (m ∷ l ∷ ls) n k h = absurd (cc)

pub spells_number : (kind : List ℕ) → IsPlain kind → Spells (number_in kind) (λ n. marked kind (map decimal (n ∷ []))) IsSmall
unfolding number_in
spells_number kind plain = spells_then (numbers_in kind) only (λ n. n ∷ []) (λ ns. marked kind (map decimal ns)) (All IsSmall) IsSmall (spells_numbers kind plain) takes_only

abbrev pub IsVersion : ℕ → Type 0
IsVersion v = (v ≡ 1) ⊎ (v ≡ 2)

takes_version : Takes known_version (λ v. v) IsSmall IsVersion
takes_version = record {
  took = λ v w k h. took_from v w (eqb v 1) refl (eqb v 2) refl h;
  good = λ v k. small v k;
  takes = λ v k. known v k;
  some = 1;
  fits = inl refl;
}
  where
    took_from : (v w : ℕ) (a : Bool) → eqb v 1 ≡ a → (b : Bool) → eqb v 2 ≡ b → cond a (Some v) (cond b (Some v) None) ≡ Some w → IsVersion w × (v ≡ w)
    took_from v w true is b is_two h = let e : v ≡ w = cc in (inl (sym e ∙ eqb-true v 1 is), e)
    took_from v w false is true is_two h = let e : v ≡ w = cc in (inr (sym e ∙ eqb-true v 2 is_two), e)
    took_from v w false is false is_two h = absurd (cc)

    small : (v : ℕ) → IsVersion v → IsSmall v
    small v (inl e) = omega arith
    small v (inr e) = omega arith

    known : (v : ℕ) → IsVersion v → known_version v ≡ Some v
    known v (inl e) = ap known_version e ∙ ap (λ n. Some n) (sym e)
    known v (inr e) = ap known_version e ∙ ap (λ n. Some n) (sym e)

pub spells_version : Spells version_in (λ v. marked (codes "certificate") (map decimal (v ∷ []))) IsVersion
unfolding version_in
spells_version = spells_then (number_in (codes "certificate")) known_version (λ v. v) (λ v. marked (codes "certificate") (map decimal (v ∷ []))) IsSmall IsVersion (spells_number (codes "certificate") (plain_by (codes "certificate") refl)) takes_version

-- Inputs

pub record IsInput (i : CertInput) : Type 0 where
  pub obligation : IsSmall i.obligation
  pub args : All IsArgument i.args

writes_input : Writes input_from input_words IsInput
writes_input = record {
  told = λ ws i h. told_from ws i h;
  tells = λ i k.
      ap (λ o. option_and_then (λ o. option_and_then (λ args. Some (made o args)) (all_of argument_of (map argument_text i.args))) o) (number_found i.obligation k.obligation)
      ∙ ap (λ o. option_and_then (λ args. Some (made i.obligation args)) o) (all_tells argument_of argument_text IsArgument tells_argument i.args k.args);
  plain = λ i k. All-cons IsPlain (decimal i.obligation) (map argument_text i.args) (tells_number.plain i.obligation k.obligation) (all_plain argument_of argument_text IsArgument tells_argument i.args k.args);
  some = made 0 [];
  fits = record { obligation = omega arith; args = All-nil IsArgument };
}
  where
    made : ℕ → List (List ℤ) → CertInput
    made o args = record { obligation = o; args = args }

    told_args : (w : List ℕ) (ws : List (List ℕ)) (i : CertInput) (o : ℕ) → number_of w ≡ Some o → (p : Option (List (List ℤ))) → all_of argument_of ws ≡ p → option_and_then (λ args. Some (made o args)) p ≡ Some i → IsInput i × (w ∷ ws ≡ input_words i)
    told_args w ws i o is None rest h = absurd (cc)
    told_args w ws i o is (Some args) rest h =
        let n = number_spelt w o is in
        let k = all_told argument_of argument_text IsArgument tells_argument ws args rest in
        let e : made o args ≡ i = cc in
        subst (λ (x : CertInput). IsInput x × (w ∷ ws ≡ input_words x)) e (record { obligation = n.0; args = k.0 }, ap (λ x. x ∷ ws) n.1 ∙ ap (λ xs. decimal o ∷ xs) k.1)

    told_number : (w : List ℕ) (ws : List (List ℕ)) (i : CertInput) (q : Option ℕ) → number_of w ≡ q → option_and_then (λ o. option_and_then (λ args. Some (made o args)) (all_of argument_of ws)) q ≡ Some i → IsInput i × (w ∷ ws ≡ input_words i)
    told_number w ws i None is h = absurd (cc)
    told_number w ws i (Some o) is h = told_args w ws i o is (all_of argument_of ws) refl h

    told_from : (ws : List (List ℕ)) (i : CertInput) → input_from ws ≡ Some i → IsInput i × (ws ≡ input_words i)
    told_from [] i h = absurd (cc)
    told_from (w ∷ ws) i h = told_number w ws i (number_of w) refl h

pub spells_input : Spells input_in (λ i. marked (codes "input") (input_words i)) IsInput
unfolding input_in
spells_input = spells_marked (codes "input") input_from input_words IsInput (plain_by (codes "input") refl) writes_input

-- Parts

pub record HasSmall (z : Sizes) : Type 0 where
  pub vars : IsSmall z.vars
  pub clauses : IsSmall z.clauses
  pub log : IsSmall z.log

-- the number of a part, if it has one
abbrev pub number_before : Option ℕ → List ℕ
number_before None = []
number_before (Some i) = i ∷ []

abbrev pub sizes_numbers : Option ℕ → Sizes → List ℕ
sizes_numbers number z = number_before number ++ z.vars ∷ z.clauses ∷ z.log ∷ []

-- a part's number has 64 bits
abbrev pub SmallNumber : Option ℕ → Type 0
SmallNumber None = Unit {0}
SmallNumber (Some i) = IsSmall i

sizes_told : (ns : List ℕ) (z : Sizes) → All IsSmall ns → sizes_from ns ≡ Some z → HasSmall z × (ns ≡ z.vars ∷ z.clauses ∷ z.log ∷ [])
sizes_told [] z k h = absurd (cc)
sizes_told (n ∷ []) z k h = absurd (cc)
sizes_told (n ∷ c ∷ []) z k h = absurd (cc)
sizes_told (n ∷ c ∷ l ∷ []) z k h =
    let made : Sizes = record { vars = n; clauses = c; log = l } in
    let e : made ≡ z = cc in
    let second = All-tail IsSmall n (c ∷ l ∷ []) k in
    let third = All-tail IsSmall c (l ∷ []) second in
    subst (λ (x : Sizes). HasSmall x × (n ∷ c ∷ l ∷ [] ≡ x.vars ∷ x.clauses ∷ x.log ∷ [])) e
    (record { vars = All-head IsSmall n (c ∷ l ∷ []) k; clauses = All-head IsSmall c (l ∷ []) second; log = All-head IsSmall l [] third }, refl)
sizes_told (n ∷ c ∷ l ∷ m ∷ ms) z k h = absurd (cc)

sizes_small : (z : Sizes) → HasSmall z → All IsSmall (z.vars ∷ z.clauses ∷ z.log ∷ [])
sizes_small z k = All-cons IsSmall z.vars (z.clauses ∷ z.log ∷ []) k.vars (All-cons IsSmall z.clauses (z.log ∷ []) k.clauses (All-cons IsSmall z.log [] k.log (All-nil IsSmall)))

takes_sizes : (number : Option ℕ) → SmallNumber number → Takes (sizes_behind number) (sizes_numbers number) (All IsSmall) HasSmall
takes_sizes None small = record {
  took = λ ns z k h. sizes_told ns z k h;
  good = λ z k. sizes_small z k;
  takes = λ z k. refl;
  some = record { vars = 0; clauses = 0; log = 0 };
  fits = record { vars = omega arith; clauses = omega arith; log = omega arith };
}
takes_sizes (Some i) small = record {
  took = λ ns z k h. took_from ns z k h;
  good = λ z k. All-cons IsSmall i (z.vars ∷ z.clauses ∷ z.log ∷ []) small (sizes_small z k);
  takes = λ z k. ap (λ b. cond b (Some z) None) (eq-eqb i i refl);
  some = record { vars = 0; clauses = 0; log = 0 };
  fits = record { vars = omega arith; clauses = omega arith; log = omega arith };
}
  where
    took_in : (n : ℕ) (ns : List ℕ) (z : Sizes) → All IsSmall ns → (b : Bool) → eqb n i ≡ b → cond b (sizes_from ns) None ≡ Some z → HasSmall z × (n ∷ ns ≡ sizes_numbers (Some i) z)
    took_in n ns z k true is h = let t = sizes_told ns z k h in (t.0, ap (λ x. x ∷ ns) (eqb-true n i is) ∙ ap (λ x. i ∷ x) t.1)
    took_in n ns z k false is h = absurd (cc)

    took_from : (ns : List ℕ) (z : Sizes) → All IsSmall ns → sizes_behind (Some i) ns ≡ Some z → HasSmall z × (ns ≡ sizes_numbers (Some i) z)
    took_from [] z k h = absurd (cc)
    took_from (n ∷ ns) z k h = took_in n ns z (All-tail IsSmall n ns k) (eqb n i) refl h

pub spells_sizes : (kind : List ℕ) (number : Option ℕ) → IsPlain kind → SmallNumber number → Spells (sizes_in kind number) (λ z. marked kind (map decimal (sizes_numbers number z))) HasSmall
unfolding sizes_in
spells_sizes kind number plain small = spells_then (numbers_in kind) (sizes_behind number) (sizes_numbers number) (λ ns. marked kind (map decimal ns)) (All IsSmall) HasSmall (spells_numbers kind plain) (takes_sizes number small)

pub spells_names : (vars : ℕ) → IsSmall vars → Spells (names_in vars) (λ names. marked (codes "names") (map variable_text names)) (All (λ v. v < vars))
unfolding names_in
spells_names vars small = spells_marked (codes "names") (all_of (variable_of vars)) (map variable_text) (All (λ v. v < vars)) (plain_by (codes "names") refl) (writes_all (variable_of vars) variable_text (λ v. v < vars) (tells_variable vars small))

pub spells_clause : (kind : List ℕ) (vars : ℕ) → IsPlain kind → IsSmall vars → Spells (clause_in kind vars) (λ c. marked kind (map literal_text c)) (All (λ l. l.var < vars))
unfolding clause_in
spells_clause kind vars plain small = spells_marked kind (all_of (literal_of vars)) (map literal_text) (All (λ l. l.var < vars)) plain (writes_all (literal_of vars) literal_text (λ l. l.var < vars) (tells_literal vars small))
