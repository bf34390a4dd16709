-- The tokens that begin the struct of an algebraic type: `struct S { int tag ;`.
use Rattle.std.specs.Prelude.{ℕ, ◌≡◌, List, [], ◌∷◌, ◌++◌, map, codes}
use Rattle.sk_tree.specs.declared.token.Token.{Token}
use Rattle.sk_tree.specs.declared.token.Kind.{Kind}
use Rattle.sk_tree.specs.declared.token.Kind.TheVariants as kind
use Rattle.sk_tree.specs.declared.token.Mark.TheVariants as mark
use Rattle.sk_tree.specs.declared.token.Key.TheVariants as key

abbrev pub head : List ℕ → List Kind
head x = kind.Key key.Struct ∷ kind.Word x ∷ kind.Mark mark.OpenBrace ∷ kind.Key key.Int ∷ kind.Word (codes "tag") ∷ kind.Mark mark.Semicolon ∷ []

-- they stand among these, one behind the other
pub record HasHead (tokens : List Token) (x : List ℕ) : Type 0 where
  pub front : List Kind
  pub back : List Kind
  pub is : map (λ t. t.kind) tokens ≡ front ++ (head x ++ back)
