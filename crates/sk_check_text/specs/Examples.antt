-- Inputs of a line `check` and their parts.
use Rattle.std.specs.Prelude.{[], codes}
use Rattle.sk_check_text.specs.Splitting.{Splits}

abbrev pub OneMark : Type 0
OneMark = Splits (codes "a\n//%%\nb") (codes "a\n") (codes "b")

-- The first of two divides.
abbrev pub TwoMarks : Type 0
TwoMarks = Splits (codes "//%%\na\n//%%\nb") [] (codes "a\n//%%\nb")

-- A last line without its line feed divides too.
abbrev pub LastMark : Type 0
LastMark = Splits (codes "a\n//%%") (codes "a\n") []

-- The mark with more before or behind it on its line does not divide.
abbrev pub NoMark : Type 0
NoMark = Splits (codes "a//%%\n//%% \n") (codes "a//%%\n//%% \n") []
