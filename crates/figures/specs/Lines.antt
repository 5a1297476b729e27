-- Lines in the text form that Prometheus reads.
use Rattle.std.specs.Prelude.{ℕ, List, [], ◌∷◌, ◌++◌, ◌+◌, ◌/◌, ◌%◌, ◌==◌, if◌then◌else◌, codes}
use Rattle.std.specs.Fmt.{decimal}
use Rattle.figures.specs.declared.prometheus.page.Kind.{Kind}
use Rattle.figures.specs.declared.prometheus.page.Kind.TheVariants.{Counter, Gauge, Histogram}
use Rattle.figures.specs.declared.prometheus.page.Family.{Family}
use Rattle.figures.specs.declared.prometheus.page.Label.{Label}
use Rattle.figures.specs.declared.prometheus.page.Value.{Value}
use Rattle.figures.specs.declared.prometheus.page.Value.TheVariants.{Whole, Milliseconds}

abbrev pub kind_word : Kind → List ℕ
kind_word Counter = codes "counter"
kind_word Gauge = codes "gauge"
kind_word Histogram = codes "histogram"

-- a byte of a label's value: a backslash, a quotation mark and a line feed have a backslash before
-- them, and the line feed is an n
abbrev pub escaped_byte : ℕ → List ℕ
escaped_byte byte =
    if byte == 92 then 92 ∷ 92 ∷ []
    else (if byte == 34 then 92 ∷ 34 ∷ []
    else (if byte == 10 then 92 ∷ 110 ∷ []
    else byte ∷ []))

abbrev pub escaped : List ℕ → List ℕ
escaped [] = []
escaped (byte ∷ rest) = escaped_byte byte ++ escaped rest

-- name="value"
abbrev pub label_text : Label → List ℕ
label_text label = label.name.now ++ codes "=\"" ++ escaped label.value.now ++ codes "\""

abbrev pub more_labels : List Label → List ℕ
more_labels [] = []
more_labels (label ∷ rest) = codes "," ++ label_text label ++ more_labels rest

-- {name="value",..}
abbrev pub labels_text : Label → List Label → List ℕ
labels_text first others = codes "{" ++ label_text first ++ more_labels others ++ codes "}"

-- three digits, of a number below a thousand
abbrev pub thousandths : ℕ → List ℕ
thousandths time = (48 + time / 100 % 10) ∷ (48 + time / 10 % 10) ∷ (48 + time % 10) ∷ []

abbrev pub value_text : Value → List ℕ
value_text (Whole number) = decimal number
value_text (Milliseconds time) = decimal (time / 1000) ++ codes "." ++ thousandths time

-- what is said of a family
abbrev pub family_lines : Family → List ℕ
family_lines family =
    codes "# HELP " ++ family.name.now ++ codes " " ++ family.help.now
    ++ codes "\n# TYPE " ++ family.name.now ++ codes " " ++ kind_word family.kind ++ codes "\n"

-- a sample under this name, with the label of all samples and its own
abbrev pub sample_line : List ℕ → Label → List Label → Value → List ℕ
sample_line name common labels value =
    name ++ labels_text common labels ++ codes " " ++ value_text value ++ codes "\n"
