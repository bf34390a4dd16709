-- The bounds that options and pragmas give: an option's number, else that of the last pragma that sets the
-- bound, else the default.
use Rattle.std.specs.Prelude.{ℕ, ◌-◌, min, List, [], ◌∷◌, drop, Option, Some, None, unwrap_or, if◌then◌else◌, codes}
use Rattle.std.specs.List.{flat_map, zip}
use Rattle.std.specs.Str.{bytes_eq}
use Rattle.sk_base.specs.declared.bounds.Bounds.{Bounds}
use Rattle.sk_tree.specs.Shapes.{is_blank}
use Rattle.sk_tree.specs.declared.item.Item.{Item}
use Rattle.sk_tree.specs.declared.item.Item.TheVariants as item
use Rattle.sk_tree.specs.declared.item.Tree.{Tree}
use Rattle.sk_opts.specs.declared.line.Set.{Set}
use Rattle.sk_opts.specs.Settings.{of_pragmas, setting_among, value_in, last_of}
use Rattle.sk_opts.specs.declared.setting.Setting.{Setting}
use Rattle.sk_opts.specs.declared.setting.Setting.TheVariants.{HoleBits, InputBits, Turns, Calls}
use Rattle.sk_opts.specs.declared.setting.Given.{Given}
use Rattle.sk_opts.specs.declared.setting.GivenValue.TheVariants.{Number}

-- Words of a pragma

abbrev pub longer_first : ℕ → List (List ℕ) → List (List ℕ)
longer_first b [] = (b ∷ []) ∷ []
longer_first b (w ∷ ws) = (b ∷ w) ∷ ws

-- what stands between blanks; nothing stands between two that follow each other
abbrev pub between_blanks : List ℕ → List (List ℕ)
between_blanks [] = [] ∷ []
between_blanks (b ∷ bs) = if is_blank b then [] ∷ between_blanks bs else longer_first b (between_blanks bs)

abbrev pub if_any : List ℕ → List (List ℕ)
if_any [] = []
if_any (b ∷ bs) = (b ∷ bs) ∷ []

-- the words of a text, which blanks divide
abbrev pub blank_words : List ℕ → List (List ℕ)
blank_words text = flat_map if_any (between_blanks text)

-- Settings of pragmas

-- each word with the one behind it
abbrev pub neighbours : List (List ℕ) → List (List ℕ × List ℕ)
neighbours words = zip words (drop 1 words)

abbrev pub given_if : Setting → Option ℕ → List Given
given_if s None = []
given_if s (Some n) = record { setting = s; value = Number n } ∷ []

-- what a word sets with the one behind it: one of the four, with a number in its range
abbrev pub set_by_word : Option Setting → List ℕ → List Given
set_by_word None next = []
set_by_word (Some s) next = given_if s (value_in s next)

-- what words set, in order; other words are passed over
abbrev pub words_settings : List (List ℕ) → List Given
words_settings words = flat_map (λ pair. set_by_word (setting_among of_pragmas pair.0) pair.1) (neighbours words)

abbrev pub item_settings : Item → List Given
item_settings (item.Pragma word text) = if bytes_eq word (codes "options") then words_settings (blank_words text) else []
item_settings (item.Struct name fields) = []
item_settings (item.Const name value) = []
item_settings (item.Fun f) = []

-- what the pragmas of a text set, in order
abbrev pub pragma_settings : Tree → List Given
pragma_settings tree = flat_map item_settings tree.items

-- Bounds

abbrev pub chosen : Option ℕ → Option ℕ → ℕ → ℕ
chosen None None default = default
chosen None (Some n) default = n
chosen (Some n) pragma default = n

abbrev pub int_bits_of : Set → ℕ
int_bits_of set = unwrap_or set.int_bits 16

-- Holes and inputs have at most as many bits as an `int` without its sign.
unfoldable pub bounds_of : Set → Tree → Bounds
bounds_of set tree = record {
  int_bits = int_bits_of set;
  cbits = min (chosen set.cbits (last_of HoleBits (pragma_settings tree)) 5) (int_bits_of set - 1);
  inbits = min (chosen set.inbits (last_of InputBits (pragma_settings tree)) 5) (int_bits_of set - 1);
  unroll = chosen set.unroll (last_of Turns (pragma_settings tree)) 8;
  inline_amnt = chosen set.inline_amnt (last_of Calls (pragma_settings tree)) 5;
}
