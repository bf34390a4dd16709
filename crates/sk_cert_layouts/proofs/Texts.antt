-- Texts of programs, put together from lines.
use Rattle.std.proofs.Common.{◌≡◌, ◌≢◌, ℕ, suc, ◌<◌, true, not, List, [], ◌∷◌, ◌++◌, All, refl, sym, ap, ◌∙◌, true≢false, codes}
use Rattle.std.specs.Prelude.{◌==◌, nat_lt}
use Rattle.std.specs.List.{flat_map, list_all, repeat}
use Rattle.std.proofs.lemmas.Bool.{and_parts, ltb-true, eq-eqb}
use Rattle.std.proofs.lemmas.List.{append-nil}
use Rattle.std.proofs.lemmas.List.Elements.{All-nil, All-cons, All-append}
use Rattle.std.proofs.lemmas.Grind.{flat_map-append}
use Rattle.sk_cert.specs.Certificates.{IsProgramLine, IsProgramText}
use Rattle.sk_print.specs.Layout.{line}
use Rattle.sk_cert_layouts.proofs.Clean.{Clean, is_clean_byte, starts, ◌▹◌, indented}

pub no_text : IsProgramText []
no_text = record { lines = []; is = refl; each = All-nil IsProgramLine }

infixl 5 ◌▸◌
pub ◌▸◌ : {a b : List ℕ} → IsProgramText a → IsProgramText b → IsProgramText (a ++ b)
◌▸◌ s t = record {
  lines = s.lines ++ t.lines;
  is = (λ i. s.is i ++ t.is i) ∙ sym (flat_map-append (λ (line : List ℕ). line ++ codes "\n") s.lines t.lines);
  each = All-append IsProgramLine s.lines t.lines s.each t.each;
}

-- each element's text is one of a program
abbrev pub AllTexts : {A : Type 0} → (A → List ℕ) → List A → Type 0
AllTexts f [] = Unit {0}
AllTexts f (x ∷ xs) = IsProgramText (f x) × AllTexts f xs

pub all_together : {A : Type 0} (f : A → List ℕ) (xs : List A) → AllTexts f xs → IsProgramText (flat_map f xs)
all_together f [] h = no_text
all_together f (x ∷ xs) h = h.0 ▸ all_together f xs h.1

low : (bs : List ℕ) → list_all is_clean_byte bs ≡ true → All (λ b. b < 128) bs
low [] h = All-nil (λ b. b < 128)
low (b ∷ bs) h =
    let hs = and_parts (is_clean_byte b) (list_all is_clean_byte bs) h in
    All-cons (λ b. b < 128) b bs (ltb-true b 128 (and_parts (nat_lt b 128) (not (b == 10)) hs.0).0) (low bs hs.1)

no_feeds : (bs : List ℕ) → list_all is_clean_byte bs ≡ true → All (λ b. b ≢ 10) bs
no_feeds [] h = All-nil (λ b. b ≢ 10)
no_feeds (b ∷ bs) h =
    let hs = and_parts (is_clean_byte b) (list_all is_clean_byte bs) h in
    let no : not (b == 10) ≡ true = (and_parts (nat_lt b 128) (not (b == 10)) hs.0).1 in
    All-cons (λ b. b ≢ 10) b bs (λ e. true≢false (sym no ∙ ap not (eq-eqb b 10 e))) (no_feeds bs hs.1)

program_line : (text : List ℕ) → Clean text → starts text ≡ true → IsProgramLine text
program_line text h k = record {
  one = no_feeds text h.each;
  ascii = low text h.each;
  plain = λ rest e. true≢false (sym k ∙ ap starts e);
}

one_line : (text : List ℕ) → Clean text → starts text ≡ true → IsProgramText (text ++ codes "\n")
one_line text h k = record {
  lines = text ∷ [];
  is = sym (append-nil (text ++ codes "\n"));
  each = All-cons IsProgramLine text [] (program_line text h k) (All-nil IsProgramLine);
}

-- a line that stands in no block
pub top : {text : List ℕ} → Clean text → starts text ≡ true → IsProgramText (line 0 text)
top {text} h k = one_line text h k

-- a line in a block
pub deep : (d : ℕ) {text : List ℕ} → Clean text → IsProgramText (line (suc d) text)
deep d {text} h = one_line (repeat (suc d) (codes "    ") ++ text) (indented (suc d) ▹ h) refl
