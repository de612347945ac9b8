-- Metrics as text, in the form that Prometheus reads.
use Rattle.std.specs.Prelude.{ℕ, List, [], ◌∷◌, ◌++◌, codes}

-- a line that begins with this word, and says this of the metric of this name
abbrev pub comment : (word name remark : List ℕ) → List ℕ
comment word name remark = word ++ name ++ codes " " ++ remark ++ codes "\n"

-- the two lines that a metric begins with
abbrev pub heading : (name kind help : List ℕ) → List ℕ
heading name kind help =
    comment (codes "# HELP ") name help ++ comment (codes "# TYPE ") name kind

-- the labels between braces, or nothing where there are none
abbrev pub braced : (labels : List ℕ) → List ℕ
braced [] = []
braced (first ∷ rest) = codes "{" ++ (first ∷ rest) ++ codes "}"

-- a line with a value
abbrev pub sample : (name labels value : List ℕ) → List ℕ
sample name labels value = name ++ braced labels ++ codes " " ++ value ++ codes "\n"
