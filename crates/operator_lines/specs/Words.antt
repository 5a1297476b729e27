-- What words say of instances: `NAME:PORT:QUOTA:SLOTS[:PARENT]`.
use Rattle.std.specs.Prelude.{◌≡◌, ℕ, List, [], ◌∷◌, ◌++◌, Option, Some, None, codes, ⊤}
use Rattle.numerals.specs.Number.{decimal_of}
use Rattle.server_events.specs.Limits.{LimitsValue}
use Rattle.server_events.specs.Configs.{ConfigValue}

-- what stands behind the slots
abbrev pub parent_part : Option (List ℕ) → List ℕ
parent_part None = []
parent_part (Some name) = codes ":" ++ name

-- the parts of a word, with `:` between them
abbrev pub written : List ℕ → List ℕ → List ℕ → List ℕ → Option (List ℕ) → List ℕ
written name port quota slots parent =
    name ++ (codes ":"
    ++ (port ++ (codes ":" ++ (quota ++ (codes ":" ++ (slots ++ parent_part parent))))))

-- a word says that an instance has a port and a configuration, with the numbers of all instances
pub record IsWordOf (limits : LimitsValue) (word : List ℕ) (port : ℕ) (config : ConfigValue)
    : Type 0 where
  pub port_digits : List ℕ
  pub quota_digits : List ℕ
  pub slots_digits : List ℕ
  pub is_written : word ≡ written config.name port_digits quota_digits slots_digits config.parent
  pub is_port : decimal_of port_digits ≡ Some port
  pub is_quota : decimal_of quota_digits ≡ Some config.quota
  pub is_slots : decimal_of slots_digits ≡ Some config.slots
  pub has_limits : config.limits ≡ limits

-- the words say the ports and the configurations, in their order
abbrev pub AreWordsOf : LimitsValue → List (List ℕ) → List ℕ → List ConfigValue → Type 0
AreWordsOf limits [] [] [] = ⊤
AreWordsOf limits (word ∷ words) (port ∷ ports) (config ∷ configs) =
    IsWordOf limits word port config × AreWordsOf limits words ports configs
AreWordsOf limits _ _ _ = ⊥
