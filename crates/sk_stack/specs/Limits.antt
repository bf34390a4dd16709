-- The limit of the stack in a text of the form of `/proc/self/limits`: a line for each limit, with its title, the soft limit and more.
use Rattle.std.specs.Prelude.{ℕ, ◌+◌, ◌-◌, ◌*◌, ◌^◌, ◌==◌, ◌&&◌, ◌++◌, nat_lt, nat_eq, Bool, true, if◌then◌else◌, List, [], ◌∷◌, drop, Option, Some, None, option_and_then, codes}
use Rattle.std.specs.List.{starts_with}
use Rattle.std.specs.Char.{is_ascii_digit}
use Rattle.std.specs.Fmt.{decimal}

-- what the deepest texts, runs and expansions that are let pass take less than, in bytes: 7 MiB
abbrev pub least_stack : ℕ
least_stack = 7340032

abbrev pub below_limit : ℕ → Option ℕ
below_limit n = if nat_lt n (2 ^ 64) then Some n else None

-- the number that the digits at the front write behind those of n
abbrev pub digits_from : ℕ → List ℕ → ℕ
digits_from n [] = n
digits_from n (c ∷ cs) = if is_ascii_digit c then digits_from (10 * n + (c - 48)) cs else n

-- the number of 64 bits that stands first behind spaces, if one does
unfoldable pub number_at : List ℕ → Option ℕ
number_at [] = None
number_at (c ∷ cs) = if c == 32 then number_at cs else if is_ascii_digit c then below_limit (digits_from 0 (c ∷ cs)) else None

-- the line of the stack begins here
abbrev pub is_titled : List ℕ → Bool
is_titled text = starts_with nat_eq text (codes "Max stack size")

-- the number in the first line of the stack; whether a line begins at the front is told
unfoldable pub limit_from : Bool → List ℕ → Option ℕ
limit_from begins [] = None
limit_from begins (c ∷ cs) = if begins && is_titled (c ∷ cs) then number_at (drop 14 (c ∷ cs)) else limit_from (c == 10) cs

-- the soft limit of the stack in bytes, if a number stands in its line
abbrev pub stack_limit : List ℕ → Option ℕ
stack_limit text = limit_from true text

abbrev pub where_short : ℕ → Option ℕ
where_short n = if nat_lt n least_stack then Some n else None

-- the limit, if it is less than a run needs
abbrev pub short_limit : List ℕ → Option ℕ
short_limit text = option_and_then where_short (stack_limit text)

-- what is told of such a limit
abbrev pub least_message : ℕ → List ℕ
least_message limit = codes "small stack " ++ decimal limit ++ codes " " ++ decimal least_stack
