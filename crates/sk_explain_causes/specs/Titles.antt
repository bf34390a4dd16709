-- The words for each cause: the title, and the lines behind it.
use Rattle.std.specs.Prelude.{ℕ, Bool, List, [], ◌∷◌, ◌++◌, decimal, codes, nat_lt, length, slice_index, Option, Some, None, if◌then◌else◌}
use Rattle.std.specs.Str.{bytes_eq}
use Rattle.sk_explain_notes.specs.Notes.{is_plain, said, one, one_line}
use Rattle.sk_expand_sizes.specs.declared.fault.SizeFault.{SizeFault}
use Rattle.sk_expand_sizes.specs.declared.fault.SizeFault.TheVariants as size
use Rattle.sk_lexer.specs.declared.fault.LexFault.{LexFault}
use Rattle.sk_lexer.specs.declared.fault.LexFault.TheVariants as lex
use Rattle.sk_adt.specs.declared.algebraic.AdtFault.{AdtFault}
use Rattle.sk_adt.specs.declared.algebraic.AdtFault.TheVariants as adt
use Rattle.sk_explain_causes.specs.declared.lowering.Broken.{Broken}
use Rattle.sk_explain_causes.specs.declared.lowering.Broken.TheVariants as broken

-- Programs that are too large

abbrev pub size_title : SizeFault → List ℕ
size_title size.Copies = one (codes "the program has more than 262144 statements and expressions")
size_title size.Sites = one (codes "the program leaves more than 4096 choices open")
size_title size.Steps = one (codes "the runs of what is asked may take more than 262144 steps in all")
size_title size.News = one (codes "the runs of one harness or implements may make more than 256 records")
size_title size.Memory = one (codes "out of memory")

abbrev pub size_notes : SizeFault → List ℕ
size_notes size.Copies =
    one_line (codes "each call of a generator is a copy: --bnd-inline-amnt says how deep")
    ++ one_line (codes "a repeat is its count of copies; an open one, as minrepeat, --bnd-unroll-amnt")
size_notes size.Sites =
    one_line (codes "a hole is one, one of type bit[n] n, a pattern one, a reorder of n statements n - 1")
    ++ one_line (codes "each copy of a generator or of the body of a repeat has its own")
size_notes size.Steps =
    one_line (codes "a loop counts --bnd-unroll-amnt times its body, loops inside it as often each")
    ++ one_line (codes "a call counts its function, one that calls itself --bnd-inline-amnt times")
size_notes size.News = one_line (codes "a new counts as often as its loop turns (--bnd-unroll-amnt) and its function is called")
size_notes size.Memory = []

-- Searches without a completion

abbrev pub none_title : List ℕ
none_title = one (codes "no values of the open parts meet all that is asked on every input")

abbrev pub none_notes : List ℕ
none_notes =
    (one_line (codes "a passed bound is a failed run: --bnd-unroll-amnt and --bnd-inline-amnt are part of what is asked")
    ++ one_line (codes "--bnd-cbits is the width of a hole, --bnd-inbits that of an input"))
    ++ one_line (codes "sketch why writes inputs that no values pass together, none of which can be left out")

abbrev pub spent_title : List ℕ → List ℕ
spent_title option = said (codes "the budget of " ∷ option ∷ codes " is spent" ∷ [])

-- whether a completion is known
abbrev pub known_notes : Bool → List ℕ
known_notes is_known =
    if is_known then one_line (codes "what is written meets all that is asked, and may not be of least value")
    else one_line (codes "no completion is known, and there may be one")

-- the same, and how many inputs broke a choice
abbrev pub spent_notes : ℕ → Bool → List ℕ
spent_notes count is_known =
    known_notes is_known ++ one (codes "inputs that broke a choice: ") ++ decimal count ++ one_line (codes "; with a larger number the search goes on")

-- Runs

abbrev pub skipped_title : List ℕ
skipped_title = one (codes "the run was skipped: what is assumed is false")

-- Bytes of a text

-- the byte at a place, where there is one
abbrev pub byte_at : List ℕ → ℕ → Option ℕ
byte_at text at = if nat_lt at (length text) then Some (slice_index text at) else None

-- the byte that begins no token, as itself where it is printable ASCII and else by its number
abbrev pub bad_byte_title : Option ℕ → List ℕ
bad_byte_title None = one (codes "no token begins here")
bad_byte_title (Some b) =
    if is_plain b then said (codes "no token begins with '" ∷ (b ∷ []) ∷ codes "'" ∷ []) else one (codes "no token begins with the byte ") ++ decimal b

abbrev pub lex_title : List ℕ → LexFault → List ℕ
lex_title text (lex.BadByte at) = bad_byte_title (byte_at text at)
lex_title text (lex.OpenComment at) = one (codes "the comment has no end: */ is wanting")
lex_title text (lex.LiteralTooLarge at) = one (codes "the number is above 2147483647")
lex_title text (lex.OpenString at) = one (codes "the text has no end on its line: \" is wanting")
lex_title text lex.Memory = one (codes "out of memory")

-- Texts with algebraic types

-- which form a word wants
abbrev pub form_notes : List ℕ → List ℕ
form_notes word =
    if bytes_eq word (codes "adt") then one_line (codes "its form is adt NAME { VARIANT { TYPE FIELD; .. } .. }")
    else if bytes_eq word (codes "switch") then one_line (codes "its form is switch (VARIABLE) { case VARIANT: { .. } .. }")
    else one_line (codes "its form is case VARIANT: { .. }, in the braces of a switch")

abbrev pub adt_title : List ℕ → AdtFault → List ℕ
adt_title word (adt.NoForm at) = said (codes "'" ∷ word ∷ codes "' does not stand in its form" ∷ [])
adt_title word (adt.Twice at) = said (codes "the name '" ∷ word ∷ codes "' stands twice" ∷ [])
adt_title word (adt.NoVariant at) = said (codes "'" ∷ word ∷ codes "' is no variant, or one of another type than the first case" ∷ [])
adt_title word (adt.TooMany at) = said (codes "'" ∷ word ∷ codes "' has more than 16 variants, or more than 16 fields" ∷ [])
adt_title word adt.Memory = one (codes "out of memory")

abbrev pub adt_notes : List ℕ → AdtFault → List ℕ
adt_notes word (adt.NoForm at) = form_notes word
adt_notes word (adt.Twice at) = one_line (codes "types and variants have one group of names, each variant has one, and the cases of each switch")
adt_notes word (adt.NoVariant at) = []
adt_notes word (adt.TooMany at) = []
adt_notes word adt.Memory = []

abbrev pub tag_title : Broken → List ℕ
tag_title broken.Build = one (codes "this new does not set the tag of a variant first, and then fields of that variant alone")
tag_title broken.Tag = one (codes "a tag, or a field of that name, stands where it cannot")
tag_title broken.Member = one (codes "the field may be one of another variant than its record has here")

abbrev pub tag_notes : Broken → List ℕ
tag_notes broken.Build = one_line (codes "new VARIANT(FIELD = VALUE, ..) does")
tag_notes broken.Tag = one_line (codes "a tag is asked in x.tag == i alone, the whole condition of an if; switch asks it")
tag_notes broken.Member = one_line (codes "it stands in the block of a case of its variable, which neither assigns that variable nor passes it for ref")
