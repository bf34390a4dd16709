-- Small texts with algebraic types, and their plain forms. The tokens of a text stand at the places 0, 1, 2 and so on.
use Rattle.std.specs.Prelude.{ℕ, suc, ◌≡◌, List, [], ◌∷◌, ◌++◌, map, codes, Result, Ok, Err}
use Rattle.sk_base.specs.declared.span.Span.{Span}
use Rattle.sk_tree.specs.declared.token.Token.{Token}
use Rattle.sk_tree.specs.declared.token.Mark.TheVariants as mark
use Rattle.sk_tree.specs.declared.token.Key.TheVariants as key
use Rattle.sk_tree.specs.Spell.{Kinds, ◌▹◌, word, number, sign, keyword}
use Rattle.sk_adt.specs.declared.algebraic.Algebraic.{Algebraic}
use Rattle.sk_adt.specs.declared.algebraic.AdtFault.{AdtFault}
use Rattle.sk_adt.specs.declared.algebraic.AdtFault.TheVariants as fault
use Rattle.sk_adt.specs.declared.algebraic.Lowered.{Lowered}
use Rattle.sk_adt.specs.Lowering.{lowered}

abbrev pub place : ℕ → Span
place n = record { from = n; to = n }

-- tokens of these kinds, at the places from n on
abbrev pub from : ℕ → Kinds → List Token
from n [] = []
from n (k ∷ ks) = record { kind = k; span = place n } ∷ from (suc n) ks

-- tokens of these kinds, all at one place
abbrev pub made : ℕ → Kinds → List Token
made n ks = map (λ k. record { kind = k; span = place n }) ks

abbrev pub lowers : Kinds → Result Lowered AdtFault
lowers ks = lowered (from 0 ks)

-- `adt S { V { int f; } W { } }`, and its struct `struct S { int tag; int v0f0; }`

abbrev pub type_text : Kinds
type_text =
    keyword key.Adt ▹ word (codes "S") ▹ sign mark.OpenBrace
    ▹ word (codes "V") ▹ sign mark.OpenBrace ▹ keyword key.Int ▹ word (codes "f") ▹ sign mark.Semicolon ▹ sign mark.CloseBrace
    ▹ word (codes "W") ▹ sign mark.OpenBrace ▹ sign mark.CloseBrace ▹ sign mark.CloseBrace

abbrev pub struct_tokens : List Token
struct_tokens =
    from 0 (keyword key.Struct ▹ word (codes "S") ▹ sign mark.OpenBrace)
    ++ (made 2 (keyword key.Int ▹ word (codes "tag") ▹ sign mark.Semicolon) ++ (from 5 (keyword key.Int ▹ word (codes "v0f0") ▹ sign mark.Semicolon) ++ made 12 (sign mark.CloseBrace)))

abbrev pub types : List Algebraic
types = record { name = codes "S"; variants = record { name = codes "V"; fields = codes "f" ∷ [] } ∷ (record { name = codes "W"; fields = [] } ∷ []) } ∷ []

-- behind that type these tokens become those
abbrev pub Becomes : Kinds → List Token → Type 0
Becomes ks ts = lowers (type_text ▹ ks) ≡ Ok (record { tokens = struct_tokens ++ ts; types = types })

-- `switch (x) { case V: { x.f; } case W: { } }`
abbrev pub switch_text : Kinds
switch_text =
    keyword key.Switch ▹ sign mark.OpenParen ▹ word (codes "x") ▹ sign mark.CloseParen ▹ sign mark.OpenBrace
    ▹ keyword key.Case ▹ word (codes "V") ▹ sign mark.Colon ▹ sign mark.OpenBrace ▹ word (codes "x") ▹ sign mark.Dot ▹ word (codes "f") ▹ sign mark.Semicolon ▹ sign mark.CloseBrace
    ▹ keyword key.Case ▹ word (codes "W") ▹ sign mark.Colon ▹ sign mark.OpenBrace ▹ sign mark.CloseBrace ▹ sign mark.CloseBrace

-- `.tag == i`
abbrev pub test : ℕ → Kinds
test i = sign mark.Dot ▹ word (codes "tag") ▹ sign mark.Equal ▹ number i

-- `if (x.tag == 0) { x.v0f0; } else { if (x.tag == 1) { } else { assert false; } }`
abbrev pub if_tokens : List Token
if_tokens =
    from 13 (keyword key.If ▹ sign mark.OpenParen ▹ word (codes "x")) ++ (made 15 (test 0) ++ (made 16 (sign mark.CloseParen)
    ++ (from 21 (sign mark.OpenBrace ▹ word (codes "x") ▹ sign mark.Dot ▹ word (codes "v0f0") ▹ sign mark.Semicolon ▹ sign mark.CloseBrace)
    ++ (made 26 (keyword key.Else ▹ sign mark.OpenBrace ▹ keyword key.If ▹ sign mark.OpenParen ▹ word (codes "x") ▹ test 1 ▹ sign mark.CloseParen)
    ++ (from 30 (sign mark.OpenBrace ▹ sign mark.CloseBrace)
    ++ made 31 (keyword key.Else ▹ sign mark.OpenBrace ▹ keyword key.Assert ▹ keyword key.False ▹ sign mark.Semicolon ▹ sign mark.CloseBrace ▹ sign mark.CloseBrace))))))

-- `new V(f = 1, g = 2) new W()`
abbrev pub new_text : Kinds
new_text =
    keyword key.New ▹ word (codes "V") ▹ sign mark.OpenParen ▹ word (codes "f") ▹ sign mark.Assign ▹ number 1 ▹ sign mark.Comma ▹ word (codes "g") ▹ sign mark.Assign ▹ number 2 ▹ sign mark.CloseParen
    ▹ keyword key.New ▹ word (codes "W") ▹ sign mark.OpenParen ▹ sign mark.CloseParen

-- `new S(tag = 0, v0f0 = 1, g = 2) new S(tag = 1)`
abbrev pub new_tokens : List Token
new_tokens =
    from 13 (keyword key.New ▹ word (codes "S") ▹ sign mark.OpenParen) ++ (made 15 (word (codes "tag") ▹ sign mark.Assign ▹ number 0 ▹ sign mark.Comma)
    ++ (from 16 (word (codes "v0f0") ▹ sign mark.Assign ▹ number 1 ▹ sign mark.Comma ▹ word (codes "g") ▹ sign mark.Assign ▹ number 2 ▹ sign mark.CloseParen
    ▹ keyword key.New ▹ word (codes "S") ▹ sign mark.OpenParen)
    ++ (made 26 (word (codes "tag") ▹ sign mark.Assign ▹ number 1) ++ made 27 (sign mark.CloseParen))))

-- `switch (x) { case U: { } }`
abbrev pub stray_text : Kinds
stray_text =
    keyword key.Switch ▹ sign mark.OpenParen ▹ word (codes "x") ▹ sign mark.CloseParen ▹ sign mark.OpenBrace
    ▹ keyword key.Case ▹ word (codes "U") ▹ sign mark.Colon ▹ sign mark.OpenBrace ▹ sign mark.CloseBrace ▹ sign mark.CloseBrace

pub record LoweringExamples : Type 0 where
  -- a type becomes a struct, a switch a chain of `if`, and what is built is a record of the struct with its tag; a field that the variant has not stays
  pub type : Becomes [] []
  pub switch : Becomes switch_text if_tokens
  pub new : Becomes new_text new_tokens
  -- a `case` stands alone, a type stands twice, and a case names no variant
  pub no_form : lowers (keyword key.Case) ≡ Err (fault.NoForm 0)
  pub twice : lowers (type_text ▹ type_text) ≡ Err (fault.Twice 14)
  pub no_variant : lowers (type_text ▹ stray_text) ≡ Err (fault.NoVariant 19)
