-- The lines that tell inputs and choices.
use Rattle.std.specs.Prelude.{ℕ, List, [], ◌∷◌, ◌++◌, length, codes}
use Rattle.std.specs.Fmt.{decimal}
use Rattle.std.specs.List.{flat_map}
use Rattle.sk_prog.specs.declared.value.Value.{Value}
use Rattle.sk_model.specs.declared.expanded.Choice.{Choice}
use Rattle.sk_model.specs.declared.expanded.Input.{Input}
use Rattle.sk_app_texts.specs.ValueTexts.{value_text}
use Rattle.sk_all_listing.specs.declared.answer.Listing.{Listing}
use Rattle.sk_all_listing.specs.declared.answer.Listing.TheVariants as listing

-- each number with a space before it
abbrev pub spaced : List ℕ → List ℕ
spaced [] = []
spaced (n ∷ ns) = 32 ∷ decimal n ++ spaced ns

-- a value with a space before it
abbrev pub argument_text : Value → List ℕ
argument_text v = codes " " ++ value_text v

-- the values of a choice, one for each site
abbrev pub holes_line : Choice → List ℕ
holes_line c = codes "//@ holes" ++ spaced c.values ++ codes "\n"

-- the number of an input's obligation, and its arguments
abbrev pub input_line : Input → List ℕ
input_line i = codes "//@ input " ++ decimal i.obligation ++ flat_map argument_text i.args ++ codes "\n"

-- a line for each input, and their number
abbrev pub inputs_text : List Input → List ℕ
inputs_text inputs = flat_map input_line inputs ++ codes "//@ why " ++ decimal (length inputs) ++ codes "\n"

-- that there is a completion, and the values of one
abbrev pub met_text : Choice → List ℕ
met_text c = codes "//@ met\n" ++ holes_line c

-- a line for each choice, and that these are all
abbrev pub all_text : List Choice → List ℕ
all_text cs = flat_map holes_line cs ++ codes "//@ all\n"

-- the same, and that there are more
abbrev pub more_text : List Choice → List ℕ
more_text cs = flat_map holes_line cs ++ codes "//@ more\n"

-- of a listing
abbrev pub listing_text : Listing → List ℕ
listing_text (listing.All cs) = all_text cs
listing_text (listing.More cs) = more_text cs
