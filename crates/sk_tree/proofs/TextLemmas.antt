-- Pieces of texts that are given byte by byte.
use Rattle.std.proofs.Common.{◌≡◌, ℕ, zero, suc, ◌+◌, ◌<◌, ◌≤◌, Bool, true, false, ◌&&◌, List, [], ◌∷◌, length, take, Option, Some, None, refl, sym, subst, arith, codes, ◌⊎◌, inl, inr}
use Rattle.std.proofs.Math.Nat.{eq-or-lt_of_le}
use Rattle.sk_tree.specs.declared.shape.Shape.{Shape}
use Rattle.sk_tree.specs.declared.shape.Shape.TheVariants as shape
use Rattle.sk_tree.specs.declared.token.Kind.TheVariants as kind
use Rattle.sk_tree.specs.declared.token.Mark.TheVariants as mark
use Rattle.sk_tree.specs.Spelling.{key_of, single_mark, double_mark}
use Rattle.sk_tree.specs.Shapes.{is_blank, is_letter, is_digit, shape_of}
use Rattle.sk_tree.specs.Longest.{Stands, NoComment, opens_comment}
use Rattle.sk_tree.specs.Tokens.{AreTokens, IsFirstFault, OpenComment, number_of}
use Rattle.sk_tree.specs.Examples.{commented, unclosed, token_from}

abbrev pub is_none : Option Shape → Bool
is_none None = true
is_none (Some s) = false

-- none of the k fronts that are longer than n is a piece
abbrev pub none_past : ℕ → ℕ → List ℕ → Bool
none_past n zero text = true
none_past n (suc k) text = is_none (shape_of (take (n + suc k) text)) && none_past n k text

none_is : (o : Option Shape) → is_none o ≡ true → o ≡ None
none_is None h = refl
none_is (Some s) h = cc

both : (a b : Bool) → (a && b) ≡ true → (a ≡ true) × (b ≡ true)
both true b h = (refl, h)
both false b h = cc

past : (n k : ℕ) (text : List ℕ) → none_past n k text ≡ true → (m : ℕ) → n < m → m ≤ n + k → shape_of (take m text) ≡ None
past n zero text h m more most = absurd (omega arith)
past n (suc k) text h m more most = split (λ g l. past n k text g m more l) (eq-or-lt_of_le most) (both (is_none (shape_of (take (n + suc k) text))) (none_past n k text) h)
  where
    split : (none_past n k text ≡ true → m ≤ n + k → shape_of (take m text) ≡ None) → (m ≡ n + suc k) ⊎ (m < n + suc k) → (is_none (shape_of (take (n + suc k) text)) ≡ true) × (none_past n k text ≡ true) → shape_of (take m text) ≡ None
    split shorter (inl e) g = none_is (shape_of (take m text)) (subst (λ j. is_none (shape_of (take j text)) ≡ true) (sym e) g.0)
    split shorter (inr l) g = shorter g.1 (omega arith)

pub stands : (text : List ℕ) (s : Shape) (n k : ℕ) → length text ≡ n + k → shape_of (take n text) ≡ Some s → none_past n k text ≡ true → (opens_comment text ≡ true → s ≡ shape.Comment) → Stands text s n
stands text s n k whole is none comment = record { piece = record { within = omega arith; stands = is; longest = λ m more most. past n k text none m more (omega arith) }; comment = comment }

-- the tokens of a text

pub commented_tokens : AreTokens commented (token_from 0 1 (kind.Word (codes "a")) ∷ token_from 10 11 (kind.Number 1) ∷ [])
unfolding shape_of is_blank is_letter is_digit single_mark double_mark key_of number_of
commented_tokens = record {
  pieces = codes "a" ∷ codes "//b" ∷ codes "\n" ∷ codes "/*c*/" ∷ codes "1" ∷ [];
  whole = (
    codes "//b\n/*c*/1",
    refl,
    record { shape = shape.Word; stands = stands (codes "a//b\n/*c*/1") shape.Word 1 10 refl refl refl (λ h. cc); within = tt },
    (
      codes "\n/*c*/1",
      refl,
      record { shape = shape.Comment; stands = stands (codes "//b\n/*c*/1") shape.Comment 3 7 refl refl refl (λ h. refl); within = tt },
      (
        codes "/*c*/1",
        refl,
        record { shape = shape.Blank; stands = stands (codes "\n/*c*/1") shape.Blank 1 6 refl refl refl (λ h. cc); within = tt },
        (
          codes "1",
          refl,
          record { shape = shape.Comment; stands = stands (codes "/*c*/1") shape.Comment 5 1 refl refl refl (λ h. refl); within = tt },
          (
            codes "",
            refl,
            record { shape = shape.Number; stands = stands (codes "1") shape.Number 1 0 refl refl refl (λ h. cc); within = omega arith },
            refl,
          ),
        ),
      ),
    ),
  );
  same = refl;
}

-- the first fault of a text

no_comment : NoComment (codes "/* x")
unfolding shape_of is_blank is_letter is_digit single_mark double_mark
no_comment zero h = cc
no_comment (suc zero) h = cc
no_comment (suc (suc zero)) h = cc
no_comment (suc (suc (suc zero))) h = cc
no_comment (suc (suc (suc (suc zero)))) h = cc
no_comment (suc (suc (suc (suc (suc m))))) h = cc

pub unclosed_fault : IsFirstFault unclosed OpenComment 11
unfolding shape_of is_blank is_letter is_digit single_mark double_mark key_of number_of
unclosed_fault = record {
  pieces = codes "int" ∷ codes " " ∷ codes "N" ∷ codes " " ∷ codes "=" ∷ codes " " ∷ codes "8" ∷ codes ";" ∷ codes " " ∷ [];
  rest = codes "/* x";
  before = (
    codes " N = 8; /* x",
    refl,
    record { shape = shape.Word; stands = stands (codes "int N = 8; /* x") shape.Word 3 12 refl refl refl (λ h. cc); within = tt },
    (
      codes "N = 8; /* x",
      refl,
      record { shape = shape.Blank; stands = stands (codes " N = 8; /* x") shape.Blank 1 11 refl refl refl (λ h. cc); within = tt },
      (
        codes " = 8; /* x",
        refl,
        record { shape = shape.Word; stands = stands (codes "N = 8; /* x") shape.Word 1 10 refl refl refl (λ h. cc); within = tt },
        (
          codes "= 8; /* x",
          refl,
          record { shape = shape.Blank; stands = stands (codes " = 8; /* x") shape.Blank 1 9 refl refl refl (λ h. cc); within = tt },
          (
            codes " 8; /* x",
            refl,
            record { shape = (shape.Mark mark.Assign); stands = stands (codes "= 8; /* x") (shape.Mark mark.Assign) 1 8 refl refl refl (λ h. cc); within = tt },
            (
              codes "8; /* x",
              refl,
              record { shape = shape.Blank; stands = stands (codes " 8; /* x") shape.Blank 1 7 refl refl refl (λ h. cc); within = tt },
              (
                codes "; /* x",
                refl,
                record { shape = shape.Number; stands = stands (codes "8; /* x") shape.Number 1 6 refl refl refl (λ h. cc); within = omega arith },
                (
                  codes " /* x",
                  refl,
                  record { shape = (shape.Mark mark.Semicolon); stands = stands (codes "; /* x") (shape.Mark mark.Semicolon) 1 5 refl refl refl (λ h. cc); within = tt },
                  (
                    codes "/* x",
                    refl,
                    record { shape = shape.Blank; stands = stands (codes " /* x") shape.Blank 1 4 refl refl refl (λ h. cc); within = tt },
                    refl,
                  ),
                ),
              ),
            ),
          ),
        ),
      ),
    ),
  );
  wrong = (refl, no_comment);
  place = refl;
}
