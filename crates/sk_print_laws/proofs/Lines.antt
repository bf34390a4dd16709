-- Lines, types and the heads of blocks: what they tell.
use Rattle.std.proofs.Common.{◌≡◌, ℕ, zero, suc, true, List, [], ◌∷◌, ◌++◌, refl, sym, ap, ◌∙◌, append_assoc, append-nil, codes}
use Rattle.std.specs.List.{repeat}
use Rattle.std.proofs.lemmas.Bool.{and_parts}
use Rattle.sk_tree.specs.declared.token.Mark.TheVariants as mark
use Rattle.sk_tree.specs.declared.token.Key.TheVariants as key
use Rattle.sk_tree.specs.Spelling.{key_of}
use Rattle.sk_tree.specs.Shapes.{is_letter, is_digit}
use Rattle.sk_tree.specs.Spell.{Kinds, ◌▹◌, sign, keyword, spell_base, spell_length, spell_ty}
use Rattle.sk_prog.specs.declared.ty.Ty.{Ty}
use Rattle.sk_prog.specs.declared.ty.Ty.TheVariants as ty
use Rattle.sk_prog.specs.declared.ty.Elem.{Elem}
use Rattle.sk_prog.specs.declared.ty.Elem.TheVariants as elem
use Rattle.sk_prog.specs.declared.prog.Prog.{Prog}
use Rattle.sk_prog.specs.Fits.{elem_fits, ty_fits}
use Rattle.sk_types_rules.specs.Erase.{nowhere, at, elem_base, erase_ty}
use Rattle.sk_types_rules.specs.Erase as E
use Rattle.sk_print.specs.Layout.{elem_layout, length_layout, ty_layout, line}
use Rattle.sk_print_laws.specs.Numbers.{is_small, ty_small}
use Rattle.sk_print_laws.proofs.Told.{Free, Told, nothing, told, same, then, told_then, told_told, told_same, space, line_feed, number_told, key_told, key_space, open_paren, close_paren, open_bracket, close_bracket, close_brace, brace_line}
use Rattle.sk_print_laws.proofs.Names.{Fits, named_told, struct_named}
use Rattle.sk_print_laws.proofs.Spelled.{number_spelled}

-- Types

module _ (prog : Prog) (fits : Fits prog) where
  elem_told : (e : Elem) → elem_fits prog e ≡ true → Told (elem_layout prog e) (spell_base (elem_base prog e))
  unfolding is_letter is_digit key_of
  elem_told elem.Int h = key_told key.Int (codes "int") refl refl
  elem_told elem.Bit h = key_told key.Bit (codes "bit") refl refl
  elem_told (elem.Reference s) h = named_told (struct_named prog fits s h)

  length_told : (n : ℕ) → is_small n ≡ true → Free (length_layout n) (spell_length (E.number n))
  unfolding is_letter is_digit
  length_told n h = then open_bracket (told_then (told_same refl (number_spelled nowhere n) (number_told n h)) close_bracket refl)

  pub ty_told : (t : Ty) → ty_fits prog t ≡ true → ty_small t ≡ true → Told (ty_layout prog t) (spell_ty (erase_ty prog t))
  unfolding is_letter is_digit
  ty_told (ty.One e) fit small = told_same refl (append-nil (spell_base (elem_base prog e))) (elem_told e fit)
  ty_told (ty.Array e n) fit small =
      told_same refl (ap (λ z. spell_base (elem_base prog e) ++ z) (append-nil (spell_length (E.number n)))) (told_told (elem_told e fit) (told (length_told n small)) refl)
  ty_told (ty.Grid e n m) fit small =
      let s = and_parts (is_small n) (is_small m) small in
      told_same (append_assoc (elem_layout prog e) (length_layout n) (length_layout m))
      (ap (λ z. spell_base (elem_base prog e) ++ (spell_length (E.number n) ++ z)) (append-nil (spell_length (E.number m))))
      (told_told (elem_told e fit) (told (then (length_told n s.0) (length_told m s.1))) refl)

-- Lines

four_spaces : Free (codes "    ") []
four_spaces = then {ks = []} {ls = []} space (then {ks = []} {ls = []} space (then {ks = []} {ls = []} space space))

indentation : (depth : ℕ) → Free (repeat depth (codes "    ")) []
indentation zero = nothing
indentation (suc depth) = then {ks = []} {ls = []} four_spaces (indentation depth)

pub line_told : (depth : ℕ) {body : List ℕ} {ks : Kinds} → Free body ks → Free (line depth body) ks
line_told depth {body} {ks} f = same (append_assoc (repeat depth (codes "    ")) body (codes "\n")) (sym (append-nil ks)) (then {ks = []} {ls = ks ++ []} (indentation depth) (then {ls = []} f line_feed))

head_bytes : (i b : List ℕ) → (i ++ (b ++ (123 ∷ []))) ++ (10 ∷ []) ≡ i ++ (b ++ (123 ∷ 10 ∷ []))
head_bytes i b = append_assoc i (b ++ (123 ∷ [])) (10 ∷ []) ∙ ap (λ z. i ++ z) (append_assoc b (123 ∷ []) (10 ∷ []))

-- a line that ends with a brace
pub head_told : (depth : ℕ) {b : List ℕ} {ks : Kinds} → Free b ks → Free (line depth (b ++ codes "{")) (ks ++ sign mark.OpenBrace)
head_told depth {b} {ks} f = same (head_bytes (repeat depth (codes "    ")) b) refl (then {ks = []} {ls = ks ++ sign mark.OpenBrace} (indentation depth) (then f brace_line))

parens_bytes : (pre c : List ℕ) → pre ++ c ++ codes ") {" ≡ (pre ++ (c ++ codes ") ")) ++ codes "{"
parens_bytes pre c = append_assoc pre c (codes ") {") ∙ ap (λ z. pre ++ z) (sym (append_assoc c (codes ") ") (codes "{"))) ∙ sym (append_assoc pre (c ++ codes ") ") (codes "{"))

-- a line that ends with a condition in parentheses and a brace
pub parens_told : (depth : ℕ) {pre c : List ℕ} {ks ls : Kinds} → Free pre ks → Told c ls → Free (line depth (pre ++ c ++ codes ") {")) ((ks ++ (ls ++ sign mark.CloseParen)) ++ sign mark.OpenBrace)
unfolding is_letter is_digit
parens_told depth {pre} {c} {ks} {ls} f g = same (ap (line depth) (parens_bytes pre c)) refl (head_told depth (then f (told_then g (then {ls = []} close_paren space) refl)))

pub end_told : (depth : ℕ) → Free (line depth (codes "}")) (sign mark.CloseBrace)
end_told depth = line_told depth close_brace

pub if_told : Free (codes "if (") (keyword key.If ▹ sign mark.OpenParen)
unfolding is_letter is_digit key_of
if_told = then (key_space key.If (codes "if") refl refl) open_paren

pub while_told : Free (codes "while (") (keyword key.While ▹ sign mark.OpenParen)
unfolding is_letter is_digit key_of
while_told = then (key_space key.While (codes "while") refl refl) open_paren

pub repeat_told : Free (codes "repeat (") (keyword key.Repeat ▹ sign mark.OpenParen)
unfolding is_letter is_digit key_of
repeat_told = then (key_space key.Repeat (codes "repeat") refl refl) open_paren

pub minrepeat_told : Free (codes "minrepeat ") (keyword key.Minrepeat)
unfolding is_letter is_digit key_of
minrepeat_told = key_space key.Minrepeat (codes "minrepeat") refl refl

pub reorder_told : Free (codes "reorder ") (keyword key.Reorder)
unfolding is_letter is_digit key_of
reorder_told = key_space key.Reorder (codes "reorder") refl refl

pub else_told : Free (codes "} else ") (sign mark.CloseBrace ▹ keyword key.Else)
unfolding is_letter is_digit key_of
else_told = then (then {ls = []} close_brace space) (key_space key.Else (codes "else") refl refl)
