-- The program of a certificate.
use Rattle.std.proofs.Common.{◌≡◌, ◌∙◌, ◌++◌, ◌∷◌, ◌<◌, ◌≤◌, ◌+◌, ◌&&◌, ℕ, zero, suc, Bool, true, false, List, [], length, take, drop, refl, sym, ap, subst, arith, append_assoc, cond, ltb, inl, inr, length-append}
use Rattle.std.specs.Prelude.{Option, Some, None, All, codes, Ok, Err}
use Rattle.std.specs.Str.{bytes_eq}
use Rattle.std.specs.List.{list_all, position}
use Rattle.std.proofs.lemmas.Bool.{lt-ltb, ltb-true}
use Rattle.std.proofs.lemmas.List.{take-append-drop, take_at, drop_at}
use Rattle.std.proofs.lemmas.List.Elements.{All-nil, All-cons, All-head, All-tail}
use Rattle.sk_cert.specs.declared.lines.Front.{Front}
use Rattle.sk_cert.specs.declared.lines.Front.TheVariants as front
use Rattle.sk_cert.specs.Readers.{Outcome, is_feed, front_of, longer, program_as, program_up_to, program_within, program}
use Rattle.sk_cert.specs.Certificates.{lines_text, IsProgramLine, IsProgramText}
use Rattle.sk_cert.proofs.Exact.{IsLine, IsWhole, Exact, ok_of, err_of, whole_both}
use Rattle.sk_cert.proofs.OneLine.{position_line, line_found, no_feed}
use Rattle.sk_cert.proofs.Numbers.{both_true}
use Rattle.sk_cert.proofs.Marks.{same_bytes, line_by}

-- the line that ends a program
abbrev pub end_line : Bool → List ℕ
end_line true = codes "//@ completion"
end_line false = codes "//@ none"

ascii_by : (w : List ℕ) → list_all (λ b. ltb b 128) w ≡ true → All (λ b. b < 128) w
ascii_by [] h = All-nil (λ b. b < 128)
ascii_by (b ∷ bs) h =
    let k = both_true (ltb b 128) (list_all (λ c. ltb c 128) bs) h in
    All-cons (λ c. c < 128) b bs (ltb-true b 128 k.0) (ascii_by bs k.1)

ascii_test : (w : List ℕ) → All (λ b. b < 128) w → list_all (λ b. ltb b 128) w ≡ true
ascii_test [] h = refl
ascii_test (b ∷ bs) h =
    ap (λ t. t && list_all (λ c. ltb c 128) bs) (lt-ltb b 128 (All-head (λ c. c < 128) b bs h))
    ∙ ascii_test bs (All-tail (λ c. c < 128) b bs h)

abbrev mark_test : List ℕ → Bool
mark_test line = bytes_eq (take 3 line) (codes "//@")

abbrev ends_test : List ℕ → Option Front
ends_test line = cond (bytes_eq line (codes "//@ completion")) (Some (front.Ends true)) (cond (bytes_eq line (codes "//@ none")) (Some (front.Ends false)) None)

abbrev plain_test : List ℕ → Option Front
plain_test line = cond (list_all (λ b. ltb b 128) line) (Some front.Program) None

front_program : (line : List ℕ) → IsProgramLine line → front_of line ≡ Some front.Program
front_program line h = from (mark_test line) refl
  where
    from : (b : Bool) → mark_test line ≡ b → cond b (ends_test line) (plain_test line) ≡ Some front.Program
    from true is = absurd (h.plain (drop 3 line) (sym (take-append-drop 3 line) ∙ ap (λ t. t ++ drop 3 line) (same_bytes (take 3 line) (codes "//@") is)))
    from false is = ap (λ b. cond b (Some front.Program) None) (ascii_test line h.ascii)

program_front : (line : List ℕ) → IsLine line → front_of line ≡ Some front.Program → IsProgramLine line
program_front line clean h = from (mark_test line) refl h
  where
    from_ends : (a b : Bool) → cond a (Some (front.Ends true)) (cond b (Some (front.Ends false)) None) ≡ Some front.Program → IsProgramLine line
    from_ends true b h = absurd (cc)
    from_ends false true h = absurd (cc)
    from_ends false false h = absurd (cc)

    from_plain : mark_test line ≡ false → (a : Bool) → list_all (λ b. ltb b 128) line ≡ a → cond a (Some front.Program) None ≡ Some front.Program → IsProgramLine line
    from_plain is false e h = absurd (cc)
    from_plain is true e h = record {
      one = clean;
      ascii = ascii_by line e;
      plain = λ rest k.
          let t : mark_test line ≡ true = ap (λ w. bytes_eq w (codes "//@")) (ap (take 3) k) in
          absurd (cc);
    }

    from : (b : Bool) → mark_test line ≡ b → cond b (ends_test line) (plain_test line) ≡ Some front.Program → IsProgramLine line
    from true is h = from_ends (bytes_eq line (codes "//@ completion")) (bytes_eq line (codes "//@ none")) h
    from false is h = from_plain is (list_all (λ b. ltb b 128) line) refl h

ends_front : (line : List ℕ) (done : Bool) → front_of line ≡ Some (front.Ends done) → line ≡ end_line done
ends_front line done h = from (mark_test line) h
  where
    chosen : (a : Bool) → bytes_eq line (codes "//@ completion") ≡ a → (b : Bool) → bytes_eq line (codes "//@ none") ≡ b → cond a (Some (front.Ends true)) (cond b (Some (front.Ends false)) None) ≡ Some (front.Ends done) → line ≡ end_line done
    chosen true is b none h = let e : true ≡ done = cc in same_bytes line (codes "//@ completion") is ∙ ap end_line e
    chosen false is true none h = let e : false ≡ done = cc in same_bytes line (codes "//@ none") none ∙ ap end_line e
    chosen false is false none h = absurd (cc)

    unplain : (a : Bool) → cond a (Some front.Program) None ≡ Some (front.Ends done) → line ≡ end_line done
    unplain true h = absurd (cc)
    unplain false h = absurd (cc)

    from : (b : Bool) → cond b (ends_test line) (plain_test line) ≡ Some (front.Ends done) → line ≡ end_line done
    from true h = chosen (bytes_eq line (codes "//@ completion")) refl (bytes_eq line (codes "//@ none")) refl h
    from false h = unplain (list_all (λ b. ltb b 128) line) h

front_end : (done : Bool) → front_of (end_line done) ≡ Some (front.Ends done)
front_end true = refl
front_end false = refl

end_clean : (done : Bool) → IsLine (end_line done)
end_clean true = line_by (codes "//@ completion") refl
end_clean false = line_by (codes "//@ none") refl

-- One line more

step : (n : ℕ) (line rest : List ℕ) → IsLine line → program_within (suc n) (line ++ 10 ∷ rest) ≡ program_as (program_within n) (line ++ 10 ∷ rest) (length line) (front_of line)
step n line rest h =
    ap (program_up_to (program_within n) (line ++ 10 ∷ rest)) (position_line line rest h)
    ∙ ap (λ l. program_as (program_within n) (line ++ 10 ∷ rest) (length line) (front_of l)) (take_at line (10 ∷ rest) (length line) refl)

dropped : (line rest : List ℕ) → drop (length line + 1) (line ++ 10 ∷ rest) ≡ rest
dropped line rest =
    let n : length (line ++ 10 ∷ []) ≡ length line + 1 = length-append line (10 ∷ []) in
    ap (drop (length line + 1)) (sym (append_assoc line (10 ∷ []) rest)) ∙ drop_at (line ++ 10 ∷ []) rest (length line + 1) n

taken : (line rest : List ℕ) → take (length line + 1) (line ++ 10 ∷ rest) ≡ line ++ 10 ∷ []
taken line rest =
    let n : length (line ++ 10 ∷ []) ≡ length line + 1 = length-append line (10 ∷ []) in
    ap (take (length line + 1)) (sym (append_assoc line (10 ∷ []) rest)) ∙ take_at (line ++ 10 ∷ []) rest (length line + 1) n

step_program : (n : ℕ) (line rest : List ℕ) → IsProgramLine line → program_within (suc n) (line ++ 10 ∷ rest) ≡ longer (line ++ 10 ∷ []) (program_within n rest)
step_program n line rest h =
    step n line rest h.one
    ∙ ap (program_as (program_within n) (line ++ 10 ∷ rest) (length line)) (front_program line h)
    ∙ ap (λ t. longer t (program_within n (drop (length line + 1) (line ++ 10 ∷ rest)))) (taken line rest)
    ∙ ap (λ t. longer (line ++ 10 ∷ []) (program_within n t)) (dropped line rest)

step_end : (n : ℕ) (done : Bool) (rest : List ℕ) → program_within (suc n) (end_line done ++ 10 ∷ rest) ≡ ok_of (([], done), rest)
step_end n done rest =
    step n (end_line done) rest (end_clean done)
    ∙ ap (program_as (program_within n) (end_line done ++ 10 ∷ rest) (length (end_line done))) (front_end done)
    ∙ ap (λ (t : List ℕ). ok_of {A = List ℕ × Bool} (([], done), t)) (dropped (end_line done) rest)

step_stuck : (n : ℕ) (line rest : List ℕ) → IsLine line → front_of line ≡ None → program_within (suc n) (line ++ 10 ∷ rest) ≡ err_of (length (line ++ 10 ∷ rest))
step_stuck n line rest h e = step n line rest h ∙ ap (program_as (program_within n) (line ++ 10 ∷ rest) (length line)) e

-- Programs

line_before : (line : List ℕ) (lines : List (List ℕ)) (rest : List ℕ) → lines_text (line ∷ lines) ++ rest ≡ line ++ 10 ∷ (lines_text lines ++ rest)
line_before line lines rest = append_assoc (line ++ 10 ∷ []) (lines_text lines) rest ∙ append_assoc line (10 ∷ []) (lines_text lines ++ rest)

lines_whole : (lines : List (List ℕ)) → IsWhole (lines_text lines)
lines_whole [] = inl refl
lines_whole (l ∷ ls) = whole_both (l ++ 10 ∷ []) (lines_text ls) (inr (l, refl)) (lines_whole ls)

lines_long : (lines : List (List ℕ)) → length lines ≤ length (lines_text lines)
lines_long [] = omega arith
lines_long (l ∷ ls) =
    let t = lines_long ls in
    let a = length-append (l ++ 10 ∷ []) (lines_text ls) in
    let b = length-append l (10 ∷ []) in
    omega arith

reads_lines : (n : ℕ) (lines : List (List ℕ)) (done : Bool) (rest : List ℕ) → length lines < n → All IsProgramLine lines → program_within n (lines_text lines ++ (end_line done ++ 10 ∷ rest)) ≡ ok_of ((lines_text lines, done), rest)
reads_lines zero lines done rest h k = absurd (omega arith)
reads_lines (suc n) [] done rest h k = step_end n done rest
reads_lines (suc n) (l ∷ ls) done rest h k =
    ap (program_within (suc n)) (line_before l ls (end_line done ++ 10 ∷ rest))
    ∙ step_program n l (lines_text ls ++ (end_line done ++ 10 ∷ rest)) (All-head IsProgramLine l ls k)
    ∙ ap (longer (l ++ 10 ∷ [])) (reads_lines n ls done rest (omega arith) (All-tail IsProgramLine l ls k))

stuck_lines : (n : ℕ) (lines : List (List ℕ)) (line other : List ℕ) → length lines < n → All IsProgramLine lines → IsLine line → front_of line ≡ None → program_within n (lines_text lines ++ (line ++ 10 ∷ other)) ≡ err_of (length (line ++ 10 ∷ other))
stuck_lines zero lines line other h k c e = absurd (omega arith)
stuck_lines (suc n) [] line other h k c e = step_stuck n line other c e
stuck_lines (suc n) (l ∷ ls) line other h k c e =
    ap (program_within (suc n)) (line_before l ls (line ++ 10 ∷ other))
    ∙ step_program n l (lines_text ls ++ (line ++ 10 ∷ other)) (All-head IsProgramLine l ls k)
    ∙ ap (longer (l ++ 10 ∷ [])) (stuck_lines n ls line other (omega arith) (All-tail IsProgramLine l ls k) c e)

-- how a program is read
pub record Reads (bs : List ℕ) (v : (List ℕ × Bool) × List ℕ) : Type 0 where
  pub text : IsProgramText v.0.0
  pub is : bs ≡ v.0.0 ++ (end_line v.0.1 ++ 10 ∷ v.1)

pub record Stops (bs : List ℕ) (k : ℕ) : Type 0 where
  pub lines : List (List ℕ)
  pub each : All IsProgramLine lines
  pub rest : List ℕ
  pub is : bs ≡ lines_text lines ++ rest
  pub left : k ≡ length rest
  pub stuck : (line behind : List ℕ) → IsLine line → rest ≡ line ++ 10 ∷ behind → front_of line ≡ None

abbrev Says : List ℕ → Outcome (List ℕ × Bool) → Type 0
Says bs (Ok v) = Reads bs v
Says bs (Err k) = Stops bs k

said_longer : (line rest : List ℕ) → IsProgramLine line → (o : Outcome (List ℕ × Bool)) → Says rest o → Says (line ++ 10 ∷ rest) (longer (line ++ 10 ∷ []) o)
said_longer line rest h (Ok v) s = record {
  text = record { lines = line ∷ s.text.lines; is = ap (λ t. (line ++ 10 ∷ []) ++ t) s.text.is; each = All-cons IsProgramLine line s.text.lines h s.text.each };
  is = ap (λ t. line ++ 10 ∷ t) s.is ∙ sym (append_assoc line (10 ∷ []) (v.0.0 ++ (end_line v.0.1 ++ 10 ∷ v.1))) ∙ sym (append_assoc (line ++ 10 ∷ []) v.0.0 (end_line v.0.1 ++ 10 ∷ v.1));
}
said_longer line rest h (Err k) s = record {
  lines = line ∷ s.lines;
  each = All-cons IsProgramLine line s.lines h s.each;
  rest = s.rest;
  is = ap (λ t. line ++ 10 ∷ t) s.is ∙ sym (line_before line s.lines s.rest);
  left = s.left;
  stuck = s.stuck;
}

said : (n : ℕ) (bs : List ℕ) → length bs ≤ n → Says bs (program_within n bs)
said zero bs h = record { lines = []; each = All-nil IsProgramLine; rest = bs; is = refl; left = refl; stuck = λ line behind c e. let l = ap length e in let m = length-append line (10 ∷ behind) in absurd (omega arith) }
said (suc n) bs h = at_feed (λ rest k. said n rest k) (position is_feed bs) refl
  where
    at_front : ((rest : List ℕ) → length rest ≤ n → Says rest (program_within n rest)) → (line rest : List ℕ) → IsLine line → length rest ≤ n → (o : Option Front) → front_of line ≡ o → Says (line ++ 10 ∷ rest) (program_within (suc n) (line ++ 10 ∷ rest))
    at_front again line rest c small None e = subst (Says (line ++ 10 ∷ rest)) (sym (step_stuck n line rest c e)) (record {
      lines = [];
      each = All-nil IsProgramLine;
      rest = line ++ 10 ∷ rest;
      is = refl;
      left = refl;
      stuck = λ l behind d same.
          let p : Some (length line) ≡ Some (length l) = sym (position_line line rest c) ∙ ap (position is_feed) same ∙ position_line l behind d in
          let q : length line ≡ length l = cc in
          let t : line ≡ l = sym (take_at line (10 ∷ rest) (length line) refl) ∙ ap (take (length line)) same ∙ ap (λ m. take m (l ++ 10 ∷ behind)) q ∙ take_at l (10 ∷ behind) (length l) refl in
          ap front_of (sym t) ∙ e;
    })
    at_front again line rest c small (Some front.Program) e =
        let h = program_front line c e in
        subst (Says (line ++ 10 ∷ rest)) (sym (step_program n line rest h)) (said_longer line rest h (program_within n rest) (again rest small))
    at_front again line rest c small (Some (front.Ends done)) e =
        let l = ends_front line done e in
        let made : program_within (suc n) (line ++ 10 ∷ rest) ≡ ok_of (([], done), rest) = ap (λ t. program_within (suc n) (t ++ 10 ∷ rest)) l ∙ step_end n done rest in
        subst (Says (line ++ 10 ∷ rest)) (sym made) (record { text = record { lines = []; is = refl; each = All-nil IsProgramLine }; is = ap (λ t. t ++ 10 ∷ rest) l })

    at_feed : ((rest : List ℕ) → length rest ≤ n → Says rest (program_within n rest)) → (p : Option ℕ) → position is_feed bs ≡ p → Says bs (program_within (suc n) bs)
    at_feed again None e = subst (Says bs) (sym (ap (program_up_to (program_within n) bs) e)) (record {
      lines = [];
      each = All-nil IsProgramLine;
      rest = bs;
      is = refl;
      left = refl;
      stuck = λ line behind c same. absurd (no_feed bs line behind e c same);
    })
    at_feed again (Some i) e =
        let f = line_found bs i e in
        let size = ap length f.is in
        let sum = length-append (take i bs) (10 ∷ drop (i + 1) bs) in
        subst (λ t. Says t (program_within (suc n) t)) (sym f.is) (at_front again (take i bs) (drop (i + 1) bs) f.line (omega arith) (front_of (take i bs)) refl)

abbrev pub program_text : List ℕ × Bool → List ℕ
program_text v = v.0 ++ (end_line v.1 ++ 10 ∷ [])

pub exact_program : Exact program program_text (λ v. IsProgramText v.0)
unfolding program
exact_program = record {
  done = λ bs v h.
      let s : Reads bs v = subst (Says bs) h (said (length bs) bs (omega arith)) in
      (s.text, s.is ∙ ap (λ t. v.0.0 ++ t) (sym (append_assoc (end_line v.0.1) (10 ∷ []) v.1)) ∙ sym (append_assoc v.0.0 (end_line v.0.1 ++ 10 ∷ []) v.1));
  reads = λ v rest k. reads_text v rest k;
  whole = λ v k. whole_both v.0 (end_line v.1 ++ 10 ∷ []) (subst IsWhole (sym k.is) (lines_whole k.lines)) (inr (end_line v.1, refl));
  halts = λ bs n h.
      let s : Stops bs n = subst (Says bs) h (said (length bs) bs (omega arith)) in
      record {
        front = lines_text s.lines;
        rest = s.rest;
        is = s.is;
        left = s.left;
        a = (lines_text s.lines, false);
        fits = record { lines = s.lines; is = refl; each = s.each };
        more = end_line false ++ 10 ∷ [];
        begins = refl;
        whole = lines_whole s.lines;
        stays = λ line behind other c e.
            let m = length-append (lines_text s.lines) (line ++ 10 ∷ other) in
            let k = length-append line (10 ∷ other) in
            let l = lines_long s.lines in
            stuck_lines (length (lines_text s.lines ++ (line ++ 10 ∷ other))) s.lines line other (omega arith) s.each c (s.stuck line behind c e);
      };
}
  where
    reads_text : (v : List ℕ × Bool) (rest : List ℕ) → IsProgramText v.0 → program ((v.0 ++ (end_line v.1 ++ 10 ∷ [])) ++ rest) ≡ ok_of (v, rest)
    reads_text v rest k =
        let bs : List ℕ = lines_text k.lines ++ (end_line v.1 ++ 10 ∷ rest) in
        let shape : (v.0 ++ (end_line v.1 ++ 10 ∷ [])) ++ rest ≡ bs = append_assoc v.0 (end_line v.1 ++ 10 ∷ []) rest ∙ ap (λ t. v.0 ++ t) (append_assoc (end_line v.1) (10 ∷ []) rest) ∙ ap (λ t. t ++ (end_line v.1 ++ 10 ∷ rest)) k.is in
        let m = length-append (lines_text k.lines) (end_line v.1 ++ 10 ∷ rest) in
        let q = length-append (end_line v.1) (10 ∷ rest) in
        let l = lines_long k.lines in
        ap (λ t. program_within (length t) t) shape
        ∙ reads_lines (length bs) k.lines v.1 rest (omega arith) k.each
        ∙ ap (λ (t : List ℕ). ok_of {A = List ℕ × Bool} ((t, v.1), rest)) (sym k.is)
