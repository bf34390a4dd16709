-- Literals, scalars and arguments.
use Rattle.std.proofs.Common.{◌≡◌, ◌≢◌, ◌∙◌, ◌++◌, ◌∷◌, ◌<◌, ◌≤◌, ◌+◌, ◌-◌, ◌^◌, ◌&&◌, ℕ, suc, Bool, true, false, List, [], length, map, refl, sym, ap, subst, arith, cond, eqb, ltb, leb}
use Rattle.std.specs.Prelude.{Option, Some, None, All, ℤ, pos, negsuc}
use Rattle.std.specs.List.{slice_split}
use Rattle.std.specs.Fmt.{decimal, signed_decimal}
use Rattle.std.proofs.lemmas.Bool.{ne_eqb, lt-ltb, ltb-true, eqb-true, leb-true, le-leb}
use Rattle.std.proofs.lemmas.Int.{ints}
use Rattle.std.proofs.lemmas.Fmt.{decimal_nonempty}
use Rattle.std.proofs.lemmas.List.Folds.{flat_map-map}
use Rattle.std.proofs.lemmas.List.Elements.{All-cons, All-head, All-tail, All-weaker, All-map, All-append}
use Rattle.sk_base.specs.Word.{IsWord}
use Rattle.sk_clause.specs.declared.lit.Lit.{Lit}
use Rattle.sk_cert.specs.Words.{number_of, variable_of, signed_literal, literal_of, positive, negative, scalar_of, argument_of, all_of}
use Rattle.sk_cert.specs.Certificates.{literal_text, variable_text, argument_text}
use Rattle.sk_cert.proofs.Numbers.{number_spelt, number_found, variable_spelt, variable_found, decimal_high, cond_some, both_true}
use Rattle.sk_cert.proofs.Pieces.{others, split_join, unsplit, some_piece, others_high, high_not, higher, Tells, all_told, all_tells}

pub tells_number : Tells number_of decimal (λ n. n < 2 ^ 64)
tells_number = record {
  told = λ w n h. number_spelt w n h;
  tells = λ n h. number_found n h;
  plain = λ n h. higher 32 47 (decimal n) (omega arith) (decimal_high n h);
}

pub tells_variable : (vars : ℕ) → vars < 2 ^ 64 → Tells (variable_of vars) variable_text (λ v. v < vars)
tells_variable vars small = record {
  told = λ w v h. variable_spelt vars w v h;
  tells = λ v h. variable_found vars v small h;
  plain = λ v h. higher 32 47 (decimal (v + 1)) (omega arith) (decimal_high (v + 1) (omega arith));
}

-- Literals

literal_plain : (vars : ℕ) (w : List ℕ) → All (λ b. 47 < b) w → 0 < length w → literal_of vars w ≡ signed_literal false (variable_of vars w)
unfolding literal_of
literal_plain vars [] h k = absurd (omega arith)
literal_plain vars (c ∷ cs) h k =
    let high : 47 < c = All-head (λ b. 47 < b) c cs h in
    let e : eqb c 45 ≡ false = ne_eqb c 45 (λ is. absurd (omega arith)) in
    ap (λ b. cond b (signed_literal true (variable_of vars cs)) (signed_literal false (variable_of vars (c ∷ cs)))) e

literal_signed : (vars : ℕ) (neg : Bool) (w digits : List ℕ) (l : Lit) → ((v : ℕ) → digits ≡ variable_text v → w ≡ literal_text (record { var = v; neg = neg })) → (o : Option ℕ) → variable_of vars digits ≡ o → signed_literal neg o ≡ Some l → (l.var < vars) × (w ≡ literal_text l)
literal_signed vars neg w digits l whole None is h = absurd (cc)
literal_signed vars neg w digits l whole (Some v) is h =
    let k = variable_spelt vars digits v is in
    let made : Lit = record { var = v; neg = neg } in
    let e : made ≡ l = cc in
    subst (λ (m : Lit). (m.var < vars) × (w ≡ literal_text m)) e (k.0, whole v k.1)

literal_told : (vars : ℕ) (w : List ℕ) (l : Lit) → literal_of vars w ≡ Some l → (l.var < vars) × (w ≡ literal_text l)
unfolding literal_of
literal_told vars [] l h = absurd (cc)
literal_told vars (c ∷ cs) l h = from (eqb c 45) refl h
  where
    from : (b : Bool) → eqb c 45 ≡ b → cond b (signed_literal true (variable_of vars cs)) (signed_literal false (variable_of vars (c ∷ cs))) ≡ Some l → (l.var < vars) × (c ∷ cs ≡ literal_text l)
    from true is h = literal_signed vars true (c ∷ cs) cs l (λ v e. ap (λ x. x ∷ cs) (eqb-true c 45 is) ∙ ap (λ t. 45 ∷ t) e) (variable_of vars cs) refl h
    from false is h = literal_signed vars false (c ∷ cs) (c ∷ cs) l (λ v e. e) (variable_of vars (c ∷ cs)) refl h

literal_tells : (vars v : ℕ) (neg : Bool) → vars < 2 ^ 64 → v < vars → literal_of vars (literal_text (record { var = v; neg = neg })) ≡ Some (record { var = v; neg = neg })
unfolding literal_of
literal_tells vars v true small h = ap (signed_literal true) (variable_found vars v small h)
literal_tells vars v false small h =
    literal_plain vars (decimal (v + 1)) (decimal_high (v + 1) (omega arith)) (decimal_nonempty (v + 1) (omega arith))
    ∙ ap (signed_literal false) (variable_found vars v small h)

literal_high : (v : ℕ) (neg : Bool) → v + 1 < 2 ^ 64 → All (λ b. 32 < b) (literal_text (record { var = v; neg = neg }))
literal_high v true h = All-cons (λ b. 32 < b) 45 (decimal (v + 1)) (omega arith) (higher 32 47 (decimal (v + 1)) (omega arith) (decimal_high (v + 1) h))
literal_high v false h = higher 32 47 (decimal (v + 1)) (omega arith) (decimal_high (v + 1) h)

pub tells_literal : (vars : ℕ) → vars < 2 ^ 64 → Tells (literal_of vars) literal_text (λ l. l.var < vars)
tells_literal vars small = record {
  told = λ w l h. literal_told vars w l h;
  tells = λ l h. literal_tells vars l.var l.neg small h;
  plain = λ l h. literal_high l.var l.neg (omega arith);
}

-- Scalars

word_pos : (n : ℕ) → n < 2 ^ 63 → IsWord 64 (pos n)
word_pos n h = record { low = omega (arith, ints); high = omega (arith, ints) }

word_negsuc : (n : ℕ) → n < 2 ^ 63 → IsWord 64 (negsuc n)
word_negsuc n h = record { low = omega (arith, ints); high = omega (arith, ints) }

pos_small : (n : ℕ) → IsWord 64 (pos n) → n < 2 ^ 63
pos_small n h = let k = h.high in omega (arith, ints)

negsuc_small : (n : ℕ) → IsWord 64 (negsuc n) → n < 2 ^ 63
negsuc_small n h = let k = h.low in omega (arith, ints)

scalar_plain : (w : List ℕ) → All (λ b. 47 < b) w → 0 < length w → scalar_of w ≡ positive (number_of w)
unfolding scalar_of
scalar_plain [] h k = absurd (omega arith)
scalar_plain (c ∷ cs) h k =
    let high : 47 < c = All-head (λ b. 47 < b) c cs h in
    let e : eqb c 45 ≡ false = ne_eqb c 45 (λ is. absurd (omega arith)) in
    ap (λ b. cond b (negative (number_of cs)) (positive (number_of (c ∷ cs)))) e

scalar_told : (w : List ℕ) (z : ℤ) → scalar_of w ≡ Some z → IsWord 64 z × (w ≡ signed_decimal z)
unfolding scalar_of
scalar_told [] z h = absurd (cc)
scalar_told (c ∷ cs) z h = from (eqb c 45) refl h
  where
    from_negative : eqb c 45 ≡ true → (o : Option ℕ) → number_of cs ≡ o → negative o ≡ Some z → IsWord 64 z × (c ∷ cs ≡ signed_decimal z)
    from_negative sign None is h = absurd (cc)
    from_negative sign (Some n) is h =
        let k = number_spelt cs n is in
        let t = cond_some (ltb 0 n && leb n (2 ^ 63)) (negsuc (n - 1)) z h in
        let b = both_true (ltb 0 n) (leb n (2 ^ 63)) t.0 in
        let low : 0 < n = ltb-true 0 n b.0 in
        let high : n ≤ 2 ^ 63 = leb-true n (2 ^ 63) b.1 in
        let next : n ≡ suc (n - 1) = omega arith in
        subst (λ (y : ℤ). IsWord 64 y × (c ∷ cs ≡ signed_decimal y)) t.1
        (word_negsuc (n - 1) (omega arith), ap (λ x. x ∷ cs) (eqb-true c 45 sign) ∙ ap (λ d. 45 ∷ d) (k.1 ∙ ap decimal next))

    from_positive : (o : Option ℕ) → number_of (c ∷ cs) ≡ o → positive o ≡ Some z → IsWord 64 z × (c ∷ cs ≡ signed_decimal z)
    from_positive None is h = absurd (cc)
    from_positive (Some n) is h =
        let k = number_spelt (c ∷ cs) n is in
        let t = cond_some (ltb n (2 ^ 63)) (pos n) z h in
        subst (λ (y : ℤ). IsWord 64 y × (c ∷ cs ≡ signed_decimal y)) t.1 (word_pos n (ltb-true n (2 ^ 63) t.0), k.1)

    from : (b : Bool) → eqb c 45 ≡ b → cond b (negative (number_of cs)) (positive (number_of (c ∷ cs))) ≡ Some z → IsWord 64 z × (c ∷ cs ≡ signed_decimal z)
    from true is h = from_negative is (number_of cs) refl h
    from false is h = from_positive (number_of (c ∷ cs)) refl h

scalar_tells : (z : ℤ) → IsWord 64 z → scalar_of (signed_decimal z) ≡ Some z
unfolding scalar_of
scalar_tells (pos n) h =
    let small : n < 2 ^ 63 = pos_small n h in
    scalar_plain (decimal n) (decimal_high n (omega arith)) (decimal_nonempty n (omega arith))
    ∙ ap positive (number_found n (omega arith))
    ∙ ap (λ b. cond b (Some (pos n)) None) (lt-ltb n (2 ^ 63) small)
scalar_tells (negsuc n) h =
    let small : n < 2 ^ 63 = negsuc_small n h in
    let less : suc n - 1 ≡ n = omega arith in
    ap negative (number_found (suc n) (omega arith))
    ∙ ap (λ b. cond (b && leb (suc n) (2 ^ 63)) (Some (negsuc (suc n - 1))) None) (lt-ltb 0 (suc n) (omega arith))
    ∙ ap (λ b. cond b (Some (negsuc (suc n - 1))) None) (le-leb (suc n) (2 ^ 63) (omega arith))
    ∙ ap (λ m. Some (negsuc m)) less

-- the text of a scalar has no comma
scalar_high : (z : ℤ) → IsWord 64 z → All (λ b. 44 < b) (signed_decimal z)
scalar_high (pos n) h = let small : n < 2 ^ 63 = pos_small n h in higher 44 47 (decimal n) (omega arith) (decimal_high n (omega arith))
scalar_high (negsuc n) h =
    let small : n < 2 ^ 63 = negsuc_small n h in
    All-cons (λ b. 44 < b) 45 (decimal (suc n)) (omega arith) (higher 44 47 (decimal (suc n)) (omega arith) (decimal_high (suc n) (omega arith)))

tells_scalar : Tells scalar_of signed_decimal (IsWord 64)
tells_scalar = record {
  told = λ w z h. scalar_told w z h;
  tells = λ z h. scalar_tells z h;
  plain = λ z h. higher 32 44 (signed_decimal z) (omega arith) (scalar_high z h);
}

-- Arguments

abbrev pub IsArgument : List ℤ → Type 0
IsArgument zs = All (IsWord 64) zs × (zs ≢ [])

argument_is : (z : ℤ) (zs : List ℤ) → argument_text (z ∷ zs) ≡ signed_decimal z ++ others 44 (map signed_decimal zs)
argument_is z zs = ap (λ t. signed_decimal z ++ t) (sym (flat_map-map (λ (v : List ℕ). 44 ∷ v) signed_decimal zs))

all_high : (m : ℕ) (zs : List ℤ) → ((z : ℤ) → IsWord 64 z → All (λ b. m < b) (signed_decimal z)) → All (IsWord 64) zs → All (All (λ b. m < b)) (map signed_decimal zs)
all_high m zs f h = All-map (All (λ b. m < b)) signed_decimal zs (All-weaker (IsWord 64) (λ z. All (λ b. m < b) (signed_decimal z)) f zs h)

argument_told : (w : List ℕ) (zs : List ℤ) → argument_of w ≡ Some zs → IsArgument zs × (w ≡ argument_text zs)
unfolding argument_of
argument_told w zs h = let k = all_told scalar_of signed_decimal (IsWord 64) tells_scalar (slice_split (λ b. eqb b 44) w) zs h in from zs k.0 k.1
  where
    from : (ys : List ℤ) → All (IsWord 64) ys → slice_split (λ b. eqb b 44) w ≡ map signed_decimal ys → IsArgument ys × (w ≡ argument_text ys)
    from [] all e = absurd (some_piece 44 w e)
    from (y ∷ ys) all e = ((all, λ n. cc), unsplit 44 w (signed_decimal y) (map signed_decimal ys) e ∙ sym (argument_is y ys))

argument_tells : (zs : List ℤ) → IsArgument zs → argument_of (argument_text zs) ≡ Some zs
unfolding argument_of
argument_tells [] h = absurd (h.1 refl)
argument_tells (z ∷ zs) h =
    let first : All (λ b. b ≢ 44) (signed_decimal z) = high_not 44 44 (signed_decimal z) (omega arith) (scalar_high z (All-head (IsWord 64) z zs h.0)) in
    let rest : All (All (λ b. b ≢ 44)) (map signed_decimal zs) = All-map (All (λ b. b ≢ 44)) signed_decimal zs (All-weaker (IsWord 64) (λ y. All (λ b. b ≢ 44) (signed_decimal y)) (λ y k. high_not 44 44 (signed_decimal y) (omega arith) (scalar_high y k)) zs (All-tail (IsWord 64) z zs h.0)) in
    ap (λ t. all_of scalar_of (slice_split (λ b. eqb b 44) t)) (argument_is z zs)
    ∙ ap (all_of scalar_of) (split_join 44 (signed_decimal z) (map signed_decimal zs) first rest)
    ∙ all_tells scalar_of signed_decimal (IsWord 64) tells_scalar (z ∷ zs) h.0

argument_plain : (zs : List ℤ) → IsArgument zs → All (λ b. 32 < b) (argument_text zs)
argument_plain [] h = absurd (h.1 refl)
argument_plain (z ∷ zs) h =
    subst (All (λ b. 32 < b)) (sym (argument_is z zs))
    (All-append (λ b. 32 < b) (signed_decimal z) (others 44 (map signed_decimal zs))
    (higher 32 44 (signed_decimal z) (omega arith) (scalar_high z (All-head (IsWord 64) z zs h.0)))
    (others_high 44 32 (map signed_decimal zs) (omega arith) (all_high 32 zs (λ y k. higher 32 44 (signed_decimal y) (omega arith) (scalar_high y k)) (All-tail (IsWord 64) z zs h.0))))

pub tells_argument : Tells argument_of argument_text IsArgument
tells_argument = record {
  told = λ w zs h. argument_told w zs h;
  tells = λ zs h. argument_tells zs h;
  plain = λ zs h. argument_plain zs h;
}
