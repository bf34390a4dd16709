-- What the whole reader says of a text.
use Rattle.std.proofs.Common.{◌≡◌, ◌≢◌, ◌∙◌, ◌++◌, ◌∷◌, ◌⊎◌, ℕ, List, [], length, refl, sym, ap, subst, append_assoc, inl, inr}
use Rattle.std.specs.Prelude.{Result, Ok, Err}
use Rattle.std.proofs.lemmas.List.{append-nil}
use Rattle.sk_cert.specs.declared.certificate.Certificate.{Certificate}
use Rattle.sk_cert.specs.Readers.{Outcome, certificate, finished, all_read, whole}
use Rattle.sk_cert.specs.Certificates.{certificate_text, HasText, IsCertificate}
use Rattle.sk_cert.specs.Departing.{BeginsCertificate, Departs}
use Rattle.sk_cert.proofs.Exact.{IsWhole, Halts, ok_of, err_of, ok_same, ok_err}
use Rattle.sk_cert.proofs.Uppers.{FirstLine, first_line}
use Rattle.sk_cert.proofs.Whole.{exact_certificate}

read_of : (c : Certificate) → HasText c → certificate (certificate_text c) ≡ ok_of (c, [])
read_of c h = ap certificate (sym (append-nil (certificate_text c))) ∙ exact_certificate.reads c [] h

pub whole_reads : (text : List ℕ) (c : Certificate) → IsCertificate text c → whole text ≡ Ok c
unfolding whole
whole_reads text c h = ap (λ t. finished (certificate t)) h.is ∙ ap finished (read_of c h.has_text)

pub whole_only : (text : List ℕ) (c : Certificate) → whole text ≡ Ok c → IsCertificate text c
unfolding whole
whole_only text c h = from (certificate text) refl h
  where
    all : (v : Certificate × List ℕ) → certificate text ≡ ok_of v → (rest : List ℕ) → v.1 ≡ rest → all_read v.0 rest ≡ Ok c → IsCertificate text c
    all v is [] e h =
        let d = exact_certificate.done text v is in
        let k : v.0 ≡ c = cc in
        subst (λ (x : Certificate). IsCertificate text x) k (record { has_text = d.0; is = d.1 ∙ ap (λ t. certificate_text v.0 ++ t) e ∙ append-nil (certificate_text v.0) })
    all v is (b ∷ bs) e h = absurd (cc)

    from : (o : Outcome Certificate) → certificate text ≡ o → finished o ≡ Ok c → IsCertificate text c
    from (Ok v) is h = all v is v.1 refl h
    from (Err n) is h = absurd (cc)

pub unique : (text : List ℕ) (c d : Certificate) → IsCertificate text c → IsCertificate text d → c ≡ d
unique text c d h k =
    let a = whole_reads text c h in
    let b = whole_reads text d k in
    cc

-- Where whole lines go on behind others, what goes on begins with a line.

last_line : (front more before : List ℕ) → more ≢ [] → front ++ more ≡ before ++ 10 ∷ [] → (rest : List ℕ) × (more ≡ rest ++ 10 ∷ [])
last_line [] more before some e = (before, e)
last_line (b ∷ bs) more [] some e = absurd (some (no_more bs (ap tail_of e)))
  where
    tail_of : List ℕ → List ℕ
    tail_of [] = []
    tail_of (c ∷ cs) = cs

    no_more : (xs : List ℕ) → xs ++ more ≡ [] → more ≡ []
    no_more [] h = h
    no_more (x ∷ xs) h = absurd (cc)
last_line (b ∷ bs) more (c ∷ cs) some e = last_line bs more cs some (ap tail_of e)
  where
    tail_of : List ℕ → List ℕ
    tail_of [] = []
    tail_of (d ∷ ds) = ds

more_line : (front more : List ℕ) → more ≢ [] → IsWhole (front ++ more) → FirstLine more
more_line front more some (inl e) = absurd (some (no_more front e))
  where
    no_more : (xs : List ℕ) → xs ++ more ≡ [] → more ≡ []
    no_more [] h = h
    no_more (x ∷ xs) h = absurd (cc)
more_line front more some (inr w) =
    let l = last_line front more w.0 some w.1 in
    subst FirstLine (sym l.1) (first_line l.0)

-- Departing

pub record DepartsBehind (text : List ℕ) (n : ℕ) : Type 0 where
  pub front : List ℕ
  pub left : List ℕ
  pub size : n ≡ length left
  pub departs : Departs text front left

stuck_departs : (text : List ℕ) (n : ℕ) → certificate text ≡ err_of n → DepartsBehind text n
stuck_departs text n is =
    let t = exact_certificate.halts text n is in
    record {
      front = t.front;
      left = t.rest;
      size = t.left;
      departs = record {
        none = λ c k. ok_err (c, []) n (sym (ap certificate k.is ∙ read_of c k.has_text) ∙ is);
        is = t.is;
        begins = record { lines = t.whole; c = t.a; has_text = t.fits; rest = t.more; is = t.begins };
        longest = λ more behind some e b. longest_of t more behind some e b;
      };
    }
  where
    longest_of : (t : Halts certificate certificate_text HasText text n) (more behind : List ℕ) → more ≢ [] → t.rest ≡ more ++ behind → BeginsCertificate (t.front ++ more) → ⊥
    longest_of t more behind some e b =
        let l = more_line t.front more some b.lines in
        let at : t.rest ≡ l.line ++ 10 ∷ (l.rest ++ behind) = e ∙ ap (λ x. x ++ behind) l.is ∙ append_assoc l.line (10 ∷ l.rest) behind in
        let s = t.stays l.line (l.rest ++ behind) (l.rest ++ b.rest) l.clean at in
        let same : certificate_text b.c ≡ t.front ++ (l.line ++ 10 ∷ (l.rest ++ b.rest)) =
        b.is ∙ append_assoc t.front more b.rest ∙ ap (λ x. t.front ++ (x ++ b.rest)) l.is ∙ ap (λ x. t.front ++ x) (append_assoc l.line (10 ∷ l.rest) b.rest) in
        ok_err (b.c, []) (length (l.line ++ 10 ∷ (l.rest ++ b.rest))) (sym (read_of b.c b.has_text) ∙ ap certificate same ∙ s)

left_departs : (text : List ℕ) (v : Certificate × List ℕ) → certificate text ≡ ok_of v → v.1 ≢ [] → DepartsBehind text (length v.1)
left_departs text v is some =
    let d = exact_certificate.done text v is in
    record {
      front = certificate_text v.0;
      left = v.1;
      size = refl;
      departs = record {
        none = λ c k. some (sym (ap (λ u. u.1) (ok_same (c, []) v (sym (ap certificate k.is ∙ read_of c k.has_text) ∙ is))));
        is = d.1;
        begins = record { lines = exact_certificate.whole v.0 d.0; c = v.0; has_text = d.0; rest = []; is = sym (append-nil (certificate_text v.0)) };
        longest = λ more behind other e b. longest_of d.0 more other b;
      };
    }
  where
    empty : (a b : List ℕ) → a ++ b ≡ [] → a ≡ []
    empty [] b h = refl
    empty (x ∷ xs) b h = absurd (cc)

    longest_of : HasText v.0 → (more : List ℕ) → more ≢ [] → BeginsCertificate (certificate_text v.0 ++ more) → ⊥
    longest_of h more other b =
        let read = exact_certificate.reads v.0 (more ++ b.rest) h in
        let same : certificate_text b.c ≡ certificate_text v.0 ++ (more ++ b.rest) = b.is ∙ append_assoc (certificate_text v.0) more b.rest in
        let e = ok_same (b.c, []) (v.0, more ++ b.rest) (sym (read_of b.c b.has_text) ∙ ap certificate same ∙ read) in
        other (empty more b.rest (sym (ap (λ u. u.1) e)))

pub whole_departs : (text : List ℕ) (n : ℕ) → whole text ≡ Err n → DepartsBehind text n
unfolding whole
whole_departs text n h = from (certificate text) refl h
  where
    all : (v : Certificate × List ℕ) → certificate text ≡ ok_of v → (rest : List ℕ) → v.1 ≡ rest → all_read v.0 rest ≡ Err n → DepartsBehind text n
    all v is [] e h = absurd (cc)
    all v is (b ∷ bs) e h =
        let size : length (b ∷ bs) ≡ n = cc in
        let same : length v.1 ≡ n = ap length e ∙ size in
        subst (DepartsBehind text) same (left_departs text v is (λ none. absurd (not_both (sym e ∙ none))))
      where
        not_both : b ∷ bs ≡ [] → ⊥
        not_both h = cc

    from : (o : Outcome Certificate) → certificate text ≡ o → finished o ≡ Err n → DepartsBehind text n
    from (Ok v) is h = all v is v.1 refl h
    from (Err m) is h = let e : m ≡ n = cc in subst (DepartsBehind text) e (stuck_departs text m is)

-- A text departs in one place.

pub record Longer (a x b y : List ℕ) : Type 0 where
  pub more : List ℕ
  pub front : b ≡ a ++ more
  pub left : x ≡ more ++ y

compare : (a x b y : List ℕ) → a ++ x ≡ b ++ y → Longer a x b y ⊎ Longer b y a x
compare [] x b y e = inl (record { more = b; front = refl; left = e })
compare (c ∷ cs) x [] y e = inr (record { more = c ∷ cs; front = refl; left = sym e })
compare (c ∷ cs) x (d ∷ ds) y e =
    let first : c ≡ d = cc in
    let rest : cs ++ x ≡ ds ++ y = cc in
    with_first first (compare cs x ds y rest)
  where
    with_first : c ≡ d → Longer cs x ds y ⊎ Longer ds y cs x → Longer (c ∷ cs) x (d ∷ ds) y ⊎ Longer (d ∷ ds) y (c ∷ cs) x
    with_first f (inl l) = inl (record { more = l.more; front = ap (λ t. d ∷ t) l.front ∙ ap (λ b. b ∷ (cs ++ l.more)) (sym f); left = l.left })
    with_first f (inr l) = inr (record { more = l.more; front = ap (λ t. c ∷ t) l.front ∙ ap (λ b. b ∷ (ds ++ l.more)) f; left = l.left })

not_longer : (text a x b y : List ℕ) → Departs text a x → BeginsCertificate b → Longer a x b y → a ≡ b
not_longer text a x b y d begins l = from l.more refl
  where
    from : (m : List ℕ) → l.more ≡ m → a ≡ b
    from [] e = sym (l.front ∙ ap (λ t. a ++ t) e ∙ append-nil a)
    from (c ∷ cs) e = absurd (d.longest l.more y (λ none. no_cons (sym e ∙ none)) l.left (subst BeginsCertificate l.front begins))
      where
        no_cons : c ∷ cs ≡ [] → ⊥
        no_cons h = cc

pub departs_once : (text a x b y : List ℕ) → Departs text a x → Departs text b y → a ≡ b
departs_once text a x b y d e = from (compare a x b y (sym d.is ∙ e.is))
  where
    from : Longer a x b y ⊎ Longer b y a x → a ≡ b
    from (inl l) = not_longer text a x b y d e.begins l
    from (inr l) = sym (not_longer text b y a x e d.begins l)

pub read_or_departs : (text : List ℕ) → ((c : Certificate) × IsCertificate text c) ⊎ ((front left : List ℕ) × Departs text front left)
read_or_departs text = from (whole text) refl
  where
    from : (o : Result Certificate ℕ) → whole text ≡ o → ((c : Certificate) × IsCertificate text c) ⊎ ((front left : List ℕ) × Departs text front left)
    from (Ok c) is = inl (c, whole_only text c is)
    from (Err n) is = let d = whole_departs text n is in inr (d.front, d.left, d.departs)
