-- Whole certificates.
use Rattle.std.proofs.Common.{◌≡◌, ◌≢◌, ◌∙◌, ◌++◌, ◌∷◌, ◌<◌, ◌≤◌, ◌^◌, ℕ, zero, suc, Bool, true, false, List, [], length, map, refl, sym, ap, subst, arith, append_assoc, ltb, inl, inr}
use Rattle.std.specs.Prelude.{Option, Some, None, IfSome, All, codes}
use Rattle.std.specs.Fmt.{decimal}
use Rattle.std.proofs.lemmas.Bool.{lt-ltb, ltb-true}
use Rattle.std.proofs.lemmas.List.{append-nil}
use Rattle.std.proofs.lemmas.List.Elements.{All-nil, All-cons, All-head, All-weaker}
use Rattle.sk_base.specs.Word.{IsWord}
use Rattle.sk_model.specs.declared.expanded.Choice.{Choice}
use Rattle.sk_cert.specs.declared.certificate.Proof.{Proof}
use Rattle.sk_cert.specs.declared.certificate.CertInput.{CertInput}
use Rattle.sk_cert.specs.declared.certificate.Certificate.{Certificate}
use Rattle.sk_cert.specs.Words.{number_in, numbers_in, version_in}
use Rattle.sk_cert.specs.Readers.{Reader, one, mapped, pair, given, program, choice_of, result_behind, inputs, part, tail, single, most_parts, upper_parts, needs_below, needs_lower, Parts, certificate_of, certificate}
use Rattle.sk_cert.specs.Certificates.{marked, number_line, result_lines, input_lines, upper_from, lower_lines, certificate_lines, certificate_text, IsProgramText, FitsVersion, FitsValue, HasSmallValues, HasItsVariables, IsSmallProof, IsSmallInput, HasScalars, HasText}
use Rattle.sk_cert.proofs.Exact.{Exact, exact_given, exact_mapped, exact_pair}
use Rattle.sk_cert.proofs.OneLine.{exact_one}
use Rattle.sk_cert.proofs.Scalars.{IsArgument}
use Rattle.sk_cert.proofs.Marks.{IsSmall, IsInput, IsVersion, spells_number, spells_numbers, spells_version, plain_by}
use Rattle.sk_cert.proofs.Program.{end_line, program_text, exact_program}
use Rattle.sk_cert.proofs.Parts.{exact_same, exact_inputs, IsPart, exact_part, part_text, end_text, FitsTail, tail_text, exact_tail}
use Rattle.sk_cert.proofs.Uppers.{many_text, ManyOk, exact_many}

-- The result

abbrev Result : Type 0
Result = Option Choice × ℕ

abbrev value_line : ℕ → List ℕ
value_line v = number_line (codes "value") (v ∷ [])

abbrev holes_line : List ℕ → List ℕ
holes_line ns = number_line (codes "holes") ns

-- the lines of a result behind its first
abbrev later_lines : Result → List ℕ
later_lines r = later r.0 r.1
  where
    later : Option Choice → ℕ → List ℕ
    later None v = []
    later (Some a) v = value_line v ++ holes_line a.values

abbrev ResultOk : Bool → Option Choice → ℕ → Type 0
ResultOk true None v = ⊥
ResultOk true (Some a) v = IsSmall v × All IsSmall a.values
ResultOk false None v = v ≡ 0
ResultOk false (Some a) v = ⊥

abbrev holes_of : Option Choice → List ℕ
holes_of None = []
holes_of (Some a) = a.values

abbrev paired : Option Choice → ℕ → Result
paired a v = (a, v)

exact_result : (done : Bool) → Exact (result_behind done) later_lines (λ r. ResultOk done r.0 r.1)
exact_result false =
    exact_same (given (None, 0)) (λ r. []) (λ r. r ≡ (None, 0)) later_lines (λ r. ResultOk false r.0 r.1) (exact_given (None, 0))
    (λ r k. subst (λ (x : Result). ResultOk false x.0 x.1) (sym k) refl)
    (λ r k. back r.0 r.1 k)
    (λ r k. ap (λ (x : Result). later_lines x) k)
  where
    back : (a : Option Choice) (v : ℕ) → ResultOk false a v → paired a v ≡ paired None 0
    back None v k = ap (paired None) k
    back (Some a) v k = absurd k
exact_result true =
    exact_mapped choice_of (λ r. (r.1, holes_of r.0)) (pair (one (number_in (codes "value"))) (λ v. one (numbers_in (codes "holes"))))
    (λ v. value_line v.0 ++ holes_line v.1) (λ v. IsSmall v.0 × All IsSmall v.1)
    later_lines (λ r. ResultOk true r.0 r.1)
    (exact_pair (one (number_in (codes "value"))) (λ v. one (numbers_in (codes "holes"))) value_line IsSmall (λ v. holes_line) (λ v. All IsSmall)
    (exact_one (number_in (codes "value")) (λ n. marked (codes "value") (map decimal (n ∷ []))) IsSmall (spells_number (codes "value") (plain_by (codes "value") refl)))
    (λ v k. exact_one (numbers_in (codes "holes")) (λ ns. marked (codes "holes") (map decimal ns)) (All IsSmall) (spells_numbers (codes "holes") (plain_by (codes "holes") refl))))
    (record {
      there = λ v k. k;
      again = λ v k. refl;
      back = λ r k. back r.0 r.1 k;
      same = λ r k. same r.0 r.1 k;
      written = λ r k. written r.0 r.1 k;
    })
  where
    back : (a : Option Choice) (v : ℕ) → ResultOk true a v → IsSmall v × All IsSmall (holes_of a)
    back None v k = absurd k
    back (Some a) v k = k

    same : (a : Option Choice) (v : ℕ) → ResultOk true a v → choice_of (v, holes_of a) ≡ paired a v
    same None v k = absurd k
    same (Some a) v k = refl

    written : (a : Option Choice) (v : ℕ) → ResultOk true a v → later_lines (paired a v) ≡ value_line v ++ holes_line (holes_of a)
    written None v k = absurd k
    written (Some a) v k = refl

-- The parts

abbrev Uppers : Type 0
Uppers = List Proof × Option Proof

abbrev parts_text : ℕ → Uppers → List ℕ
parts_text v u = upper_from v 0 u.0 ++ tail_text u.1

abbrev PartsOk : ℕ → Result → Uppers → Type 0
PartsOk v r u = (FitsVersion v r.0 u.0 × (All IsPart u.0 × (length u.0 < 2 ^ 64))) × FitsTail (needs_below r.0 r.1) u.1

abbrev parts_reader : ℕ → Result → Reader Uppers
parts_reader v r = pair (upper_parts v r.0) (λ u. tail (needs_lower r))

exact_no_choice : (v value : ℕ) → Exact (parts_reader v (None, value)) (parts_text v) (PartsOk v (None, value))
exact_no_choice v value =
    exact_same (parts_reader v (None, value)) (λ u. [] ++ tail_text u.1) (λ u. (u.0 ≡ []) × FitsTail true u.1) (parts_text v) (PartsOk v (None, value))
    (exact_pair (given []) (λ u. tail true) (λ u. []) (λ u. u ≡ []) (λ u. tail_text) (λ u. FitsTail true) (exact_given []) (λ u k. exact_tail true))
    (λ u k. ((k.0, (subst (All IsPart) (sym k.0) (All-nil IsPart), few u.0 k.0)), k.1))
    (λ u k. (k.0.0, k.1))
    (λ u k. ap (λ x. upper_from v 0 x ++ tail_text u.1) k.0)
  where
    few : (ps : List Proof) → ps ≡ [] → length ps < 2 ^ 64
    few ps e = let n = ap length e in omega arith

exact_first_version : (a : Choice) (value : ℕ) → Exact (parts_reader 1 (Some a, value)) (parts_text 1) (PartsOk 1 (Some a, value))
exact_first_version a value =
    exact_same (parts_reader 1 (Some a, value)) (λ u. upper_from 1 0 u.0 ++ tail_text u.1) (λ u. (All IsPart u.0 × (length u.0 ≡ 1)) × FitsTail (ltb 0 value) u.1) (parts_text 1) (PartsOk 1 (Some a, value))
    (exact_pair (mapped single (part (codes "upper") None)) (λ u. tail (ltb 0 value)) (upper_from 1 0) (λ u. All IsPart u × (length u ≡ 1)) (λ u. tail_text) (λ u. FitsTail (ltb 0 value))
    (exact_mapped single first_of (part (codes "upper") None) (part_text (codes "upper") None) IsPart (upper_from 1 0) (λ u. All IsPart u × (length u ≡ 1)) (exact_part (codes "upper") None (plain_by (codes "upper") refl) tt)
    (record {
      there = λ p k. (All-cons IsPart p [] k (All-nil IsPart), refl);
      again = λ p k. refl;
      back = λ u k. back u k.0 k.1;
      same = λ u k. same u k.1;
      written = λ u k. written u k.1;
    }))
    (λ u k. exact_tail (ltb 0 value)))
    (λ u k. ((λ e. k.0.1, (k.0.0, small u.0 k.0.1)), k.1))
    (λ u k. ((k.0.1.0, k.0.0 refl), k.1))
    (λ u k. refl)
  where
    first_of : List Proof → Proof
    first_of [] = Rattle.sk_cert.proofs.Parts.some_part
    first_of (p ∷ ps) = p

    small : (u : List Proof) → length u ≡ 1 → length u < 2 ^ 64
    small u e = omega arith

    back : (u : List Proof) → All IsPart u → length u ≡ 1 → IsPart (first_of u)
    back [] k e = absurd (omega arith)
    back (p ∷ ps) k e = All-head IsPart p ps k

    same : (u : List Proof) → length u ≡ 1 → single (first_of u) ≡ u
    same [] e = absurd (omega arith)
    same (p ∷ []) e = refl
    same (p ∷ q ∷ ps) e = absurd (omega arith)

    written : (u : List Proof) → length u ≡ 1 → upper_from 1 0 u ≡ part_text (codes "upper") None (first_of u)
    written [] e = absurd (omega arith)
    written (p ∷ []) e = append-nil (part_text (codes "upper") None p)
    written (p ∷ q ∷ ps) e = absurd (omega arith)

exact_second_version : (a : Choice) (value : ℕ) → Exact (parts_reader 2 (Some a, value)) (parts_text 2) (PartsOk 2 (Some a, value))
exact_second_version a value =
    exact_same (parts_reader 2 (Some a, value)) (many_text 0) (ManyOk most_parts (ltb 0 value)) (parts_text 2) (PartsOk 2 (Some a, value))
    (exact_many most_parts 0 (ltb 0 value) (omega arith))
    (λ u k. ((λ e. absurd (omega arith), (k.0.0, less u.0 k.0.1)), k.1))
    (λ u k. ((k.0.1.0, at_most u.0 k.0.1.1), k.1))
    (λ u k. refl)
  where
    less : (u : List Proof) → length u ≤ most_parts → length u < 2 ^ 64
    less u h = omega arith

    at_most : (u : List Proof) → length u < 2 ^ 64 → length u ≤ most_parts
    at_most u h = omega arith

exact_parts : (v : ℕ) (r : Result) → IsVersion v → Exact (parts_reader v r) (parts_text v) (PartsOk v r)
exact_parts v r k = by_choice r.0 r.1 k
  where
    by_choice : (a : Option Choice) (value : ℕ) → IsVersion v → Exact (parts_reader v (a, value)) (parts_text v) (PartsOk v (a, value))
    by_choice None value k = exact_no_choice v value
    by_choice (Some a) value (inl e) = subst (λ n. Exact (parts_reader n (Some a, value)) (parts_text n) (PartsOk n (Some a, value))) (sym e) (exact_first_version a value)
    by_choice (Some a) value (inr e) = subst (λ n. Exact (parts_reader n (Some a, value)) (parts_text n) (PartsOk n (Some a, value))) (sym e) (exact_second_version a value)

-- The whole, from the end on

abbrev version_line : ℕ → List ℕ
version_line v = number_line (codes "certificate") (v ∷ [])

abbrev AreInputs : List CertInput → Type 0
AreInputs is = All IsInput is × IsSmall (length is)

abbrev with_inputs : ℕ → Result → Reader (List CertInput × Uppers)
with_inputs v r = pair inputs (λ i. parts_reader v r)

exact_with_inputs : (v : ℕ) (r : Result) → IsVersion v → Exact (with_inputs v r) (λ x. input_lines x.0 ++ parts_text v x.1) (λ x. AreInputs x.0 × PartsOk v r x.1)
exact_with_inputs v r k = exact_pair inputs (λ i. parts_reader v r) input_lines AreInputs (λ i. parts_text v) (λ i. PartsOk v r) exact_inputs (λ i l. exact_parts v r k)

abbrev with_version : Result → Reader (ℕ × (List CertInput × Uppers))
with_version r = pair (one version_in) (λ v. with_inputs v r)

exact_with_version : (r : Result) → Exact (with_version r) (λ x. version_line x.0 ++ (input_lines x.1.0 ++ parts_text x.0 x.1.1)) (λ x. IsVersion x.0 × (AreInputs x.1.0 × PartsOk x.0 r x.1.1))
exact_with_version r =
    exact_pair (one version_in) (λ v. with_inputs v r) version_line IsVersion (λ v x. input_lines x.0 ++ parts_text v x.1) (λ v x. AreInputs x.0 × PartsOk v r x.1)
    (exact_one version_in (λ v. marked (codes "certificate") (map decimal (v ∷ []))) IsVersion spells_version)
    (λ v k. exact_with_inputs v r k)

abbrev with_result : Bool → Reader (Result × (ℕ × (List CertInput × Uppers)))
with_result done = pair (result_behind done) (λ r. with_version r)

abbrev behind_text : Result × (ℕ × (List CertInput × Uppers)) → List ℕ
behind_text x = later_lines x.0 ++ (version_line x.1.0 ++ (input_lines x.1.1.0 ++ parts_text x.1.0 x.1.1.1))

abbrev BehindOk : Bool → Result × (ℕ × (List CertInput × Uppers)) → Type 0
BehindOk done x = ResultOk done x.0.0 x.0.1 × (IsVersion x.1.0 × (AreInputs x.1.1.0 × PartsOk x.1.0 x.0 x.1.1.1))

exact_with_result : (done : Bool) → Exact (with_result done) behind_text (BehindOk done)
exact_with_result done =
    exact_pair (result_behind done) (λ r. with_version r) later_lines (λ r. ResultOk done r.0 r.1) (λ r x. version_line x.0 ++ (input_lines x.1.0 ++ parts_text x.0 x.1.1)) (λ r x. IsVersion x.0 × (AreInputs x.1.0 × PartsOk x.0 r x.1.1))
    (exact_result done) (λ r k. exact_with_version r)

abbrev whole_text : Parts → List ℕ
whole_text v = program_text v.0 ++ behind_text v.1

abbrev WholeOk : Parts → Type 0
WholeOk v = IsProgramText v.0.0 × BehindOk v.0.1 v.1

exact_all : Exact (pair program (λ p. with_result p.1)) whole_text WholeOk
exact_all = exact_pair program (λ p. with_result p.1) program_text (λ p. IsProgramText p.0) (λ p. behind_text) (λ p. BehindOk p.1) exact_program (λ p k. exact_with_result p.1)

-- Certificates and their pieces

abbrev is_done : Option Choice → Bool
is_done None = false
is_done (Some a) = true

abbrev parts_of : Certificate → Parts
parts_of c = ((c.text, is_done c.choice), ((c.choice, c.value), (c.version, (c.inputs, (c.upper, c.lower)))))

input_small : (i : CertInput) → IsInput i → IsSmallInput i
input_small i k = record { obligation = k.obligation; scalars = All-weaker IsArgument (All (IsWord 64)) (λ zs h. h.0) i.args k.args }

input_scalars : (i : CertInput) → IsInput i → HasScalars i
input_scalars i k = All-weaker IsArgument (λ zs. zs ≢ []) (λ zs h. h.1) i.args k.args

both_parts : {X : Type 0} (P Q R : X → Type 0) → ((x : X) → P x → Q x → R x) → (xs : List X) → All P xs → All Q xs → All R xs
both_parts P Q R f xs h k = λ n d l. f _ (h n d l) (k n d l)

input_of : (i : CertInput) → IsSmallInput i → HasScalars i → IsInput i
input_of i s h = record { obligation = s.obligation; args = both_parts (All (IsWord 64)) (λ zs. zs ≢ []) IsArgument (λ zs a b. (a, b)) i.args s.scalars h }

small_result : (done : Bool) (a : Option Choice) (v : ℕ) → ResultOk done a v → IsSmall v × HasSmallValues a
small_result true None v k = absurd k
small_result true (Some a) v k = k
small_result false None v k = let small : IsSmall v = omega arith in (small, tt)
small_result false (Some a) v k = absurd k

lower_fits : (done : Bool) (a : Option Choice) (v : ℕ) (l : Option Proof) → ResultOk done a v → FitsTail (needs_below a v) l → FitsValue a v l × (IfSome l HasItsVariables × IfSome l IsSmallProof)
lower_fits true None v l k t = absurd k
lower_fits false (Some a) v l k t = absurd k
lower_fits false None v None k t = absurd t
lower_fits false None v (Some p) k t = ((k, (p, refl)), (t.has, t.small))
lower_fits true (Some a) v l k t = by_test (ltb 0 v) refl l t
  where
    by_test : (b : Bool) → ltb 0 v ≡ b → (l : Option Proof) → FitsTail b l → FitsValue (Some a) v l × (IfSome l HasItsVariables × IfSome l IsSmallProof)
    by_test true e None t = absurd t
    by_test true e (Some p) t = (ltb-true 0 v e, (t.has, t.small))
    by_test false e None t = (zero_of v e, (tt, tt))
      where
        zero_of : (v : ℕ) → ltb 0 v ≡ false → v ≡ 0
        zero_of zero e = refl
        zero_of (suc n) e = let t = lt-ltb 0 (suc n) (omega arith) in absurd (cc)
    by_test false e (Some p) t = absurd (cc)

text_there : (v : Parts) → WholeOk v → HasText (certificate_of v)
text_there v k =
    let r = k.1.0 in
    let s = small_result v.0.1 v.1.0.0 v.1.0.1 r in
    let l = lower_fits v.0.1 v.1.0.0 v.1.0.1 v.1.1.1.1.1 r k.1.1.1.1.1 in
    let is = k.1.1.1.0 in
    let u = k.1.1.1.1.0 in
    record {
      form = record {
        version = k.1.1.0;
        text = k.0;
        args = All-weaker IsInput HasScalars input_scalars v.1.1.1.0 is.0;
        upper = u.0;
        lower = l.0;
        each_upper = All-weaker IsPart HasItsVariables (λ p h. h.has) v.1.1.1.1.0 u.1.0;
        its_lower = l.1.0;
      };
      numbers = record {
        value = s.0;
        holes = s.1;
        count = is.1;
        parts = u.1.1;
        inputs = All-weaker IsInput IsSmallInput input_small v.1.1.1.0 is.0;
        upper = All-weaker IsPart IsSmallProof (λ p h. h.small) v.1.1.1.1.0 u.1.0;
        lower = l.1.1;
      };
    }

done_same : (done : Bool) (a : Option Choice) (v : ℕ) → ResultOk done a v → is_done a ≡ done
done_same true None v k = absurd k
done_same true (Some a) v k = refl
done_same false None v k = refl
done_same false (Some a) v k = absurd k

result_back : (a : Option Choice) (v : ℕ) (l : Option Proof) → FitsValue a v l → IsSmall v → HasSmallValues a → ResultOk (is_done a) a v
result_back None v l f s h = f.0
result_back (Some a) v l f s h = (s, h)

tail_back : (a : Option Choice) (v : ℕ) (l : Option Proof) → FitsValue a v l → IfSome l HasItsVariables → IfSome l IsSmallProof → FitsTail (needs_below a v) l
tail_back None v None f h s = let n : None ≡ Some f.1.0 = f.1.1 in absurd (cc)
tail_back None v (Some p) f h s = record { has = h; small = s }
tail_back (Some a) v None f h s = let e : ltb 0 v ≡ false = ap (ltb 0) f in subst (λ b. FitsTail b None) (sym e) refl
tail_back (Some a) v (Some p) f h s = subst (λ b. FitsTail b (Some p)) (sym (lt-ltb 0 v f)) (record { has = h; small = s })

text_back : (c : Certificate) → HasText c → WholeOk (parts_of c)
text_back c k =
    let f = k.form in
    let n = k.numbers in (
      f.text,
      (
        result_back c.choice c.value c.lower f.lower n.value n.holes,
        (
          f.version,
          (
            (both_parts IsSmallInput HasScalars IsInput input_of c.inputs n.inputs f.args, n.count),
            (
              (f.upper, (both_parts HasItsVariables IsSmallProof IsPart (λ p a b. record { has = a; small = b }) c.upper f.each_upper n.upper, n.parts)),
              tail_back c.choice c.value c.lower f.lower f.its_lower n.lower,
            ),
          ),
        ),
      ),
    )

text_same : (c : Certificate) → certificate_text c ≡ whole_text (parts_of c)
text_same c = by_choice c.choice c.value
  where
    proofs : List ℕ
    proofs = version_line c.version ++ (input_lines c.inputs ++ parts_text c.version (c.upper, c.lower))

    grouped : (t e r v i u l d : List ℕ) → (t ++ (e ++ r)) ++ ((((v ++ i) ++ u) ++ l) ++ d) ≡ (t ++ e) ++ (r ++ (v ++ (i ++ (u ++ (l ++ d)))))
    grouped t e r v i u l d = simp append_assoc

    three : (t e x h b : List ℕ) → t ++ (((e ++ x) ++ h) ++ b) ≡ (t ++ (e ++ (x ++ h))) ++ b
    three t e x h b = simp append_assoc

    by_choice : (a : Option Choice) (value : ℕ) → c.text ++ result_lines a value ++ certificate_lines c ≡ program_text (c.text, is_done a) ++ (later_lines (a, value) ++ proofs)
    by_choice None value = ap (λ t. (c.text ++ t) ++ certificate_lines c) (sym (append-nil (end_line false ++ 10 ∷ []))) ∙ grouped c.text (end_line false ++ 10 ∷ []) [] (version_line c.version) (input_lines c.inputs) (upper_from c.version 0 c.upper) (lower_lines c.lower) end_text
    by_choice (Some a) value = ap (λ t. (c.text ++ t) ++ certificate_lines c) (append_assoc (end_line true ++ 10 ∷ []) (value_line value) (holes_line a.values)) ∙ grouped c.text (end_line true ++ 10 ∷ []) (value_line value ++ holes_line a.values) (version_line c.version) (input_lines c.inputs) (upper_from c.version 0 c.upper) (lower_lines c.lower) end_text

parts_same : (v : Parts) → WholeOk v → parts_of (certificate_of v) ≡ v
parts_same v k = ap with_done (done_same v.0.1 v.1.0.0 v.1.0.1 k.1.0)
  where
    with_done : Bool → Parts
    with_done b = ((v.0.0, b), v.1)

pub exact_certificate : Exact certificate certificate_text HasText
unfolding certificate
exact_certificate =
    exact_mapped certificate_of parts_of (pair program (λ p. with_result p.1)) whole_text WholeOk certificate_text HasText exact_all
    (record {
      there = text_there;
      again = parts_same;
      back = text_back;
      same = λ c k. refl;
      written = λ c k. text_same c;
    })
