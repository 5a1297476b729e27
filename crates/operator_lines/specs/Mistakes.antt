-- What is wrong in a word for an instance.
use Rattle.std.specs.Prelude.{◌≡◌, ℕ, ◌+◌, ◌==◌, if◌then◌else◌, List, [], ◌∷◌, ◌++◌, Option, Some, codes}
use Rattle.operator_lines.specs.declared.instance_words.mistakes.Part.{Part}
use Rattle.operator_lines.specs.declared.instance_words.mistakes.Part.TheVariants.{Name, Port, Quota, Slots, Parent}
use Rattle.operator_lines.specs.declared.instance_words.mistakes.Mistake.{Mistake}
use Rattle.operator_lines.specs.declared.instance_words.mistakes.Mistake.TheVariants.{Lacks, Behind, Is, Spaced}
use Rattle.operator_lines.specs.Words.{written}

-- how many colons a text has (byte 58)
abbrev pub colons : List ℕ → ℕ
colons [] = 0
colons (byte ∷ text) = if byte == 58 then 1 + colons text else colons text

-- how many colons stand before a part
abbrev pub colons_before : Part → ℕ
colons_before Name = 0
colons_before Port = 1
colons_before Quota = 2
colons_before Slots = 3
colons_before Parent = 4

-- a part among those of a word
abbrev pub part_among : Part → (name port quota slots : List ℕ) → Option (List ℕ)
    → Option (List ℕ)
part_among Name name port quota slots parent = Some name
part_among Port name port quota slots parent = Some port
part_among Quota name port quota slots parent = Some quota
part_among Slots name port quota slots parent = Some slots
part_among Parent name port quota slots parent = parent

-- a word has parts, of which one is this text
pub record HasPart (word : List ℕ) (part : Part) (text : List ℕ) : Type 0 where
  pub name : List ℕ
  pub port : List ℕ
  pub quota : List ℕ
  pub slots : List ℕ
  pub parent : Option (List ℕ)
  pub is_written : word ≡ written name port quota slots parent
  pub is_part : part_among part name port quota slots parent ≡ Some text

-- a word has five parts, and a colon and this behind them
pub record HasBehind (word text : List ℕ) : Type 0 where
  pub name : List ℕ
  pub port : List ℕ
  pub quota : List ℕ
  pub slots : List ℕ
  pub parent : List ℕ
  pub is_written : word ≡ written name port quota slots (Some (parent ++ (codes ":" ++ text)))

-- a space stands in it, and this behind the first or a later one
abbrev pub HasBehindSpace : List ℕ → List ℕ → Type 0
HasBehindSpace word text = (front : List ℕ) × (word ≡ front ++ (codes " " ++ text))

-- it ends before a part, goes on behind the last, has this for a part, or has a space before this
abbrev pub IsMistakeOf : List ℕ → Mistake → Type 0
IsMistakeOf word (Lacks part) = colons word + 1 ≡ colons_before part
IsMistakeOf word (Behind text) = HasBehind word text.now
IsMistakeOf word (Is part text) = HasPart word part text.now
IsMistakeOf word (Spaced text) = HasBehindSpace word text.now
