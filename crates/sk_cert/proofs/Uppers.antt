-- The upper parts of a certificate of version 2, and what stands behind them.
use Rattle.std.proofs.Common.{◌≡◌, ◌≢◌, ◌∙◌, ◌++◌, ◌∷◌, ◌<◌, ◌≤◌, ◌+◌, ◌-◌, ◌^◌, ◌⊎◌, ℕ, zero, suc, Bool, true, false, List, [], length, get_or, map, refl, sym, ap, subst, arith, append_assoc, cond, eqb, inl, inr}
use Rattle.std.specs.Prelude.{Option, Some, None, All, codes, Ok, Err}
use Rattle.std.proofs.lemmas.Bool.{ne_eqb, eqb-true}
use Rattle.std.proofs.lemmas.List.Elements.{All-nil, All-cons, All-head, All-tail}
use Rattle.sk_cert.specs.declared.certificate.Proof.{Proof}
use Rattle.sk_cert.specs.declared.lines.Sizes.{Sizes}
use Rattle.sk_cert.specs.Words.{sizes_in}
use Rattle.sk_cert.specs.Readers.{Outcome, Reader, ◌>>=◌, one, passed, mapped, pair, given, rows, tail, upper_behind, uppers}
use Rattle.sk_cert.specs.Certificates.{upper_from}
use Rattle.sk_cert.proofs.Exact.{IsLine, IsWhole, Halts, Exact, exact_given, exact_mapped, exact_pair, ok_of, err_of, ok_err, whole_both}
use Rattle.sk_cert.proofs.OneLine.{one_at}
use Rattle.sk_cert.proofs.Marks.{HasSmall, plain_by}
use Rattle.sk_cert.proofs.Parts.{exact_same, IsPart, HasSizes, rows_text, exact_rows, sizes_of, part_of, sizes_same, own_sizes, sizes_line, exact_sizes, part_shape, FitsTail, tail_text, exact_tail, some_part}

-- The first line decides.

pub record FirstLine (bs : List ℕ) : Type 0 where
  pub line : List ℕ
  pub rest : List ℕ
  pub clean : IsLine line
  pub is : bs ≡ line ++ 10 ∷ rest

pub first_line : (before : List ℕ) → FirstLine (before ++ 10 ∷ [])
first_line [] = record { line = []; rest = []; clean = All-nil (λ b. b ≢ 10); is = refl }
first_line (b ∷ bs) = at_byte (first_line bs) (eqb b 10) refl
  where
    at_byte : FirstLine (bs ++ 10 ∷ []) → (t : Bool) → eqb b 10 ≡ t → FirstLine (b ∷ (bs ++ 10 ∷ []))
    at_byte f true e = record { line = []; rest = bs ++ 10 ∷ []; clean = All-nil (λ c. c ≢ 10); is = ap (λ c. c ∷ (bs ++ 10 ∷ [])) (eqb-true b 10 e) }
    at_byte f false e = record { line = b ∷ f.line; rest = f.rest; clean = All-cons (λ c. c ≢ 10) b f.line (λ k. Rattle.std.proofs.lemmas.Bool.eqb-false b 10 e k) f.clean; is = ap (λ t. b ∷ t) f.is }

same_first : {A : Type 0} (f : List ℕ → Option A) (l r s : List ℕ) (m : ℕ) → IsLine l → one f (l ++ 10 ∷ r) ≡ err_of m → (k : ℕ) × (one f (l ++ 10 ∷ s) ≡ err_of k)
same_first {A} f l r s m c h = from (f l) refl (sym (one_at f l r c) ∙ h)
  where
    from : (o : Option A) → f l ≡ o → passed (f l) (l ++ 10 ∷ r) (length l) ≡ err_of m → (k : ℕ) × (one f (l ++ 10 ∷ s) ≡ err_of k)
    from None is e = (length (l ++ 10 ∷ s), one_at f l s c ∙ ap (λ o. passed o (l ++ 10 ∷ s) (length l)) is)
    from (Some a) is e = absurd (ok_err (a, Rattle.std.proofs.Common.drop (length l + 1) (l ++ 10 ∷ r)) m (sym (ap (λ o. passed o (l ++ 10 ∷ r) (length l)) is) ∙ e))

pub refused_alike : {A : Type 0} (f : List ℕ → Option A) (front line behind other : List ℕ) (m : ℕ) → IsWhole front → IsLine line → one f (front ++ (line ++ 10 ∷ behind)) ≡ err_of m → (k : ℕ) × (one f (front ++ (line ++ 10 ∷ other)) ≡ err_of k)
refused_alike f front line behind other m (inl e) c h =
    let k = same_first f line behind other m c (sym (ap (λ t. one f (t ++ (line ++ 10 ∷ behind))) e) ∙ h) in
    (k.0, ap (λ t. one f (t ++ (line ++ 10 ∷ other))) e ∙ k.1)
refused_alike f front line behind other m (inr w) c h =
    let l = first_line w.0 in
    let k = same_first f l.line (l.rest ++ (line ++ 10 ∷ behind)) (l.rest ++ (line ++ 10 ∷ other)) m l.clean (sym (ap (one f) (shape l (line ++ 10 ∷ behind))) ∙ h) in
    (k.0, ap (one f) (shape l (line ++ 10 ∷ other)) ∙ k.1)
  where
    shape : (l : FirstLine (w.0 ++ 10 ∷ [])) (more : List ℕ) → front ++ more ≡ l.line ++ 10 ∷ (l.rest ++ more)
    shape l more = ap (λ t. t ++ more) (w.1 ∙ l.is) ∙ append_assoc l.line (10 ∷ l.rest) more

-- Parts one behind another

abbrev pub many : ℕ → ℕ → Bool → Reader (List Proof × Option Proof)
many n i needs = pair (uppers n i) (λ u. tail needs)

abbrev joined : Proof × (List Proof × Option Proof) → List Proof × Option Proof
joined v = (v.0 ∷ v.1.0, v.1.1)

abbrev no_parts : Option Proof → List Proof × Option Proof
no_parts lower = ([], lower)

abbrev body : Reader (List Proof × Option Proof) → Sizes → Reader (List Proof × Option Proof)
body again z = mapped joined (pair (rows z) (λ p. again))

abbrev header : ℕ → Reader Sizes
header i = one (sizes_in (codes "upper") (Some i))

many_headed : (n i : ℕ) (needs : Bool) (bs : List ℕ) (z : Sizes × List ℕ) → header i bs ≡ ok_of z → many (suc n) i needs bs ≡ body (many n (i + 1) needs) z.0 z.1
unfolding uppers
many_headed n i needs bs z h = ap (λ o. closing (upper_behind (uppers n (i + 1)) bs o)) h ∙ with_rows (rows z.0 z.1)
  where
    closing : Outcome (List Proof) → Outcome (List Proof × Option Proof)
    closing o = o >>= λ v. tail needs v.1 >>= λ w. Ok ((v.0, w.0), w.1)

    finish : Outcome (Proof × (List Proof × Option Proof)) → Outcome (List Proof × Option Proof)
    finish o = o >>= λ v. Ok (joined v.0, v.1)

    with_tail : (p : Proof) (u : List Proof) (o : Outcome (Option Proof)) → (o >>= λ w. Ok ((p ∷ u, w.0), w.1)) ≡ finish ((o >>= λ w. Ok ((u, w.0), w.1)) >>= λ w. Ok ((p, w.0), w.1))
    with_tail p u (Ok w) = refl
    with_tail p u (Err k) = refl

    with_uppers : (p : Proof) (o : Outcome (List Proof)) → closing (o >>= λ w. Ok (p ∷ w.0, w.1)) ≡ finish (closing o >>= λ w. Ok ((p, w.0), w.1))
    with_uppers p (Ok u) = with_tail p u.0 (tail needs u.1)
    with_uppers p (Err k) = refl

    with_rows : (o : Outcome Proof) → closing (o >>= λ p. uppers n (i + 1) p.1 >>= λ w. Ok (p.0 ∷ w.0, w.1)) ≡ finish (o >>= λ p. many n (i + 1) needs p.1 >>= λ w. Ok ((p.0, w.0), w.1))
    with_rows (Ok p) = with_uppers p.0 (uppers n (i + 1) p.1)
    with_rows (Err k) = refl

many_tail : (n i : ℕ) (needs : Bool) (bs : List ℕ) (k : ℕ) → header i bs ≡ err_of k → many (suc n) i needs bs ≡ mapped no_parts (tail needs) bs
unfolding uppers
many_tail n i needs bs k h = ap (λ o. upper_behind (uppers n (i + 1)) bs o >>= λ v. tail needs v.1 >>= λ w. Ok ((v.0, w.0), w.1)) h

abbrev pub many_text : ℕ → List Proof × Option Proof → List ℕ
many_text i v = upper_from 2 i v.0 ++ tail_text v.1

abbrev pub ManyOk : ℕ → Bool → List Proof × Option Proof → Type 0
ManyOk n needs v = (All IsPart v.0 × (length v.0 ≤ n)) × FitsTail needs v.1

abbrev NoneOk : Bool → List Proof × Option Proof → Type 0
NoneOk needs v = (v.0 ≡ []) × FitsTail needs v.1

none_many : (n : ℕ) (needs : Bool) (v : List Proof × Option Proof) → NoneOk needs v → ManyOk n needs v
none_many n needs v k =
    let e = ap length k.0 in
    ((subst (All IsPart) (sym k.0) (All-nil IsPart), omega arith), k.1)

-- no parts
exact_none : (i : ℕ) (needs : Bool) → Exact (mapped no_parts (tail needs)) (many_text i) (NoneOk needs)
exact_none i needs =
    exact_mapped no_parts (λ v. v.1) (tail needs) tail_text (FitsTail needs) (many_text i) (NoneOk needs) (exact_tail needs)
    (record {
      there = λ a k. (refl, k);
      again = λ a k. refl;
      back = λ v k. k.1;
      same = λ v k. ap (λ (u : List Proof). paired u v.1) (sym k.0);
      written = λ v k. ap (λ u. upper_from 2 i u ++ tail_text v.1) k.0;
    })
  where
    paired : List Proof → Option Proof → List Proof × Option Proof
    paired u l = (u, l)

-- the lines behind the first line of a part, and those of the parts behind it
abbrev BodyOk : ℕ → Bool → Sizes → List Proof → Option Proof → Type 0
BodyOk n needs z [] lower = ⊥
BodyOk n needs z (p ∷ ps) lower = HasSizes z p × ManyOk n needs (ps, lower)

abbrev body_text : ℕ → List Proof → Option Proof → List ℕ
body_text i [] lower = []
body_text i (p ∷ ps) lower = rows_text p ++ many_text (i + 1) (ps, lower)

abbrev apart : List Proof → Option Proof → Proof × (List Proof × Option Proof)
apart [] lower = (some_part, ([], lower))
apart (p ∷ ps) lower = (p, (ps, lower))

exact_body : (n i : ℕ) (needs : Bool) (z : Sizes) → HasSmall z → Exact (many n (i + 1) needs) (many_text (i + 1)) (ManyOk n needs) → Exact (body (many n (i + 1) needs) z) (λ v. body_text i v.0 v.1) (λ v. BodyOk n needs z v.0 v.1)
exact_body n i needs z small e =
    exact_mapped joined (λ v. apart v.0 v.1) (pair (rows z) (λ p. many n (i + 1) needs))
    (λ v. rows_text v.0 ++ many_text (i + 1) v.1) (λ v. HasSizes z v.0 × ManyOk n needs v.1)
    (λ v. body_text i v.0 v.1) (λ v. BodyOk n needs z v.0 v.1)
    (exact_pair (rows z) (λ p. many n (i + 1) needs) rows_text (HasSizes z) (λ p. many_text (i + 1)) (λ p. ManyOk n needs) (exact_rows z small) (λ p k. e))
    (record {
      there = λ v k. k;
      again = λ v k. refl;
      back = λ v k. back_of v.0 v.1 k;
      same = λ v k. same_of v.0 v.1 k;
      written = λ v k. written_of v.0 v.1 k;
    })
  where
    back_of : (ps : List Proof) (l : Option Proof) → BodyOk n needs z ps l → HasSizes z (apart ps l).0 × ManyOk n needs (apart ps l).1
    back_of [] l k = absurd k
    back_of (p ∷ ps) l k = k

    paired : List Proof → Option Proof → List Proof × Option Proof
    paired u l = (u, l)

    same_of : (ps : List Proof) (l : Option Proof) → BodyOk n needs z ps l → joined (apart ps l) ≡ paired ps l
    same_of [] l k = absurd k
    same_of (p ∷ ps) l k = refl

    written_of : (ps : List Proof) (l : Option Proof) → BodyOk n needs z ps l → body_text i ps l ≡ rows_text (apart ps l).0 ++ many_text (i + 1) (apart ps l).1
    written_of [] l k = absurd k
    written_of (p ∷ ps) l k = refl

many_shape : (i : ℕ) (p : Proof) (ps : List Proof) (l : Option Proof) → many_text i (p ∷ ps, l) ≡ sizes_line (codes "upper") (Some i) (sizes_of p) ++ body_text i (p ∷ ps) l
many_shape i p ps l =
    ap (λ t. (t ++ upper_from 2 (i + 1) ps) ++ tail_text l) (part_shape (codes "upper") (Some i) p)
    ∙ regroup (sizes_line (codes "upper") (Some i) (sizes_of p)) (rows_text p) (upper_from 2 (i + 1) ps) (tail_text l)
  where
    regroup : (a b c d : List ℕ) → ((a ++ b) ++ c) ++ d ≡ a ++ (b ++ (c ++ d))
    regroup a b c d = simp append_assoc

-- What stands behind the parts begins with another word than a part.
tail_apart : (needs : Bool) (l : Option Proof) (rest : List ℕ) → FitsTail needs l → get_or (tail_text l ++ rest) 4 0 ≢ 117
tail_apart needs None rest k e = other 101 117 e (omega arith)
  where
    other : (a b : ℕ) → a ≡ b → a < b → ⊥
    other a b e h = omega arith
tail_apart needs (Some p) rest k e = other 108 117 e (omega arith)
  where
    other : (a b : ℕ) → a ≡ b → a < b → ⊥
    other a b e h = omega arith

pub exact_many : (n i : ℕ) (needs : Bool) → i + n < 2 ^ 64 → Exact (many n i needs) (many_text i) (ManyOk n needs)
unfolding uppers
exact_many zero i needs small =
    exact_same (pair (given []) (λ u. tail needs)) (λ v. [] ++ tail_text v.1) (NoneOk needs) (many_text i) (ManyOk 0 needs)
    (exact_pair (given []) (λ u. tail needs) (λ u. []) (λ u. u ≡ []) (λ u. tail_text) (λ u. FitsTail needs) (exact_given []) (λ u k. exact_tail needs))
    (λ v k. none_many 0 needs v k) (λ v k. (empty v.0 k.0.1, k.1)) (λ v k. ap (λ u. upper_from 2 i u ++ tail_text v.1) k.0)
  where
    empty : (ps : List Proof) → length ps ≤ 0 → ps ≡ []
    empty [] h = refl
    empty (p ∷ ps) h = absurd (omega arith)
exact_many (suc n) i needs small = steps (exact_many n (i + 1) needs (omega arith))
  where
    head : Exact (header i) (sizes_line (codes "upper") (Some i)) HasSmall
    head = exact_sizes (codes "upper") (Some i) (plain_by (codes "upper") refl) (omega arith)

    none : Exact (mapped no_parts (tail needs)) (many_text i) (NoneOk needs)
    none = exact_none i needs

    many_of : (z : Sizes) (ps : List Proof) (l : Option Proof) → HasSmall z → BodyOk n needs z ps l → ManyOk (suc n) needs (ps, l)
    many_of z [] l s k = absurd k
    many_of z (p ∷ ps) l s k = ((All-cons IsPart p ps (part_of z p s k.0) k.1.0.0, omega (arith, k.1.0.1)), k.1.1)

    text_of : (z : Sizes) (ps : List Proof) (l : Option Proof) → BodyOk n needs z ps l → many_text i (ps, l) ≡ sizes_line (codes "upper") (Some i) z ++ body_text i ps l
    text_of z [] l k = absurd k
    text_of z (p ∷ ps) l k = many_shape i p ps l ∙ ap (λ (y : Sizes). sizes_line (codes "upper") (Some i) y ++ body_text i (p ∷ ps) l) (sizes_same z p k.0)

    steps : Exact (many n (i + 1) needs) (many_text (i + 1)) (ManyOk n needs) → Exact (many (suc n) i needs) (many_text i) (ManyOk (suc n) needs)
    steps e = record {
      done = λ bs v h. done_at bs v (header i bs) refl h;
      reads = λ v rest k. reads_at v.0 v.1 rest k;
      whole = λ v k. whole_at v.0 v.1 k;
      halts = λ bs k h. halts_at bs k (header i bs) refl h;
    }
      where
        done_at : (bs : List ℕ) (v : (List Proof × Option Proof) × List ℕ) (o : Outcome Sizes) → header i bs ≡ o → many (suc n) i needs bs ≡ ok_of v → ManyOk (suc n) needs v.0 × (bs ≡ many_text i v.0 ++ v.1)
        done_at bs v (Ok z) is h =
            let d = head.done bs z is in
            let b = (exact_body n i needs z.0 d.0 e).done z.1 v (sym (many_headed n i needs bs z is) ∙ h) in (
              many_of z.0 v.0.0 v.0.1 d.0 b.0,
              d.1 ∙ ap (λ t. sizes_line (codes "upper") (Some i) z.0 ++ t) b.1
                  ∙ sym (append_assoc (sizes_line (codes "upper") (Some i) z.0) (body_text i v.0.0 v.0.1) v.1)
                  ∙ ap (λ t. t ++ v.1) (sym (text_of z.0 v.0.0 v.0.1 b.0)),
            )
        done_at bs v (Err k) is h =
            let b = none.done bs v (sym (many_tail n i needs bs k is) ∙ h) in
            (none_many (suc n) needs v.0 b.0, b.1)

        paired : List Proof → Option Proof → List Proof × Option Proof
        paired u l = (u, l)

        reads_none : (l : Option Proof) (rest : List ℕ) → FitsTail needs l → (o : Outcome Sizes) → header i (many_text i ([], l) ++ rest) ≡ o → many (suc n) i needs (many_text i ([], l) ++ rest) ≡ ok_of (paired [] l, rest)
        reads_none l rest k (Err m) is = many_tail n i needs (many_text i ([], l) ++ rest) m is ∙ none.reads (paired [] l) rest (refl, k)
        reads_none l rest k (Ok z) is =
            let d = head.done (many_text i ([], l) ++ rest) z is in
            absurd (tail_apart needs l rest k (ap (λ t. get_or t 4 0) d.1))

        reads_at : (ps : List Proof) (l : Option Proof) (rest : List ℕ) → ManyOk (suc n) needs (ps, l) → many (suc n) i needs (many_text i (ps, l) ++ rest) ≡ ok_of (paired ps l, rest)
        reads_at [] l rest k = reads_none l rest k.1 (header i (many_text i ([], l) ++ rest)) refl
        reads_at (p ∷ ps) l rest k =
            let part = All-head IsPart p ps k.0.0 in
            let own = own_sizes p part in
            let less : length ps ≤ n = omega (arith, k.0.1) in
            let shape = ap (λ t. t ++ rest) (many_shape i p ps l) ∙ append_assoc (sizes_line (codes "upper") (Some i) (sizes_of p)) (body_text i (p ∷ ps) l) rest in
            ap (many (suc n) i needs) shape
            ∙ many_headed n i needs (sizes_line (codes "upper") (Some i) (sizes_of p) ++ (body_text i (p ∷ ps) l ++ rest)) (sizes_of p, body_text i (p ∷ ps) l ++ rest) (head.reads (sizes_of p) (body_text i (p ∷ ps) l ++ rest) own.0)
            ∙ (exact_body n i needs (sizes_of p) own.0 e).reads (paired (p ∷ ps) l) rest (own.1, ((All-tail IsPart p ps k.0.0, less), k.1))

        whole_at : (ps : List Proof) (l : Option Proof) → ManyOk (suc n) needs (ps, l) → IsWhole (many_text i (ps, l))
        whole_at [] l k = none.whole (paired [] l) (refl, k.1)
        whole_at (p ∷ ps) l k =
            let part = All-head IsPart p ps k.0.0 in
            let own = own_sizes p part in
            let less : length ps ≤ n = omega (arith, k.0.1) in
            subst IsWhole (sym (many_shape i p ps l))
            (whole_both (sizes_line (codes "upper") (Some i) (sizes_of p)) (body_text i (p ∷ ps) l) (head.whole (sizes_of p) own.0)
            ((exact_body n i needs (sizes_of p) own.0 e).whole (paired (p ∷ ps) l) (own.1, ((All-tail IsPart p ps k.0.0, less), k.1))))

        halts_at : (bs : List ℕ) (k : ℕ) (o : Outcome Sizes) → header i bs ≡ o → many (suc n) i needs bs ≡ err_of k → Halts (many (suc n) i needs) (many_text i) (ManyOk (suc n) needs) bs k
        halts_at bs k (Ok z) is h =
            let d = head.done bs z is in
            let t = (exact_body n i needs z.0 d.0 e).halts z.1 k (sym (many_headed n i needs bs z is) ∙ h) in
            let line = sizes_line (codes "upper") (Some i) z.0 in
            record {
              front = line ++ t.front;
              rest = t.rest;
              is = d.1 ∙ ap (λ x. line ++ x) t.is ∙ sym (append_assoc line t.front t.rest);
              left = t.left;
              a = t.a;
              fits = many_of z.0 t.a.0 t.a.1 d.0 t.fits;
              more = t.more;
              begins = text_of z.0 t.a.0 t.a.1 t.fits ∙ ap (λ x. line ++ x) t.begins ∙ sym (append_assoc line t.front t.more);
              whole = whole_both line t.front (head.whole z.0 d.0) t.whole;
              stays = λ l behind other c g.
                  ap (many (suc n) i needs) (append_assoc line t.front (l ++ 10 ∷ other))
                  ∙ many_headed n i needs (line ++ (t.front ++ (l ++ 10 ∷ other))) (z.0, t.front ++ (l ++ 10 ∷ other)) (head.reads z.0 (t.front ++ (l ++ 10 ∷ other)) d.0)
                  ∙ t.stays l behind other c g;
            }
        halts_at bs k (Err m) is h =
            let t = none.halts bs k (sym (many_tail n i needs bs m is) ∙ h) in
            record {
              front = t.front;
              rest = t.rest;
              is = t.is;
              left = t.left;
              a = t.a;
              fits = none_many (suc n) needs t.a t.fits;
              more = t.more;
              begins = t.begins;
              whole = t.whole;
              stays = λ l behind other c g.
                  let r = refused_alike (sizes_in (codes "upper") (Some i)) t.front l behind other m t.whole c (sym (ap (header i) (t.is ∙ ap (λ x. t.front ++ x) g)) ∙ is) in
                  many_tail n i needs (t.front ++ (l ++ 10 ∷ other)) r.0 r.1 ∙ t.stays l behind other c g;
            }
