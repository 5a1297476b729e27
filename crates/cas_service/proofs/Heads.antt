-- Reading record by record what a request says beside its entries.
use Rattle.std.proofs.Common.{◌≡◌, ℕ, ℤ, List, [], ◌∷◌, Option, Some, None, Result, Ok, Err, refl, ◌∙◌}
use Rattle.protobuf_wire.specs.Reading.{records_of}
use Rattle.protobuf_wire.specs.declared.field.WireError.{WireError}
use Rattle.reapi_messages.specs.MessageError.{MessageError}
use Rattle.reapi_messages.specs.Results.{◌>>=◌}
use Rattle.reapi_messages.specs.Record.{Record}
use Rattle.reapi_messages.specs.Answers.{of_wire}
use Rattle.reapi_messages.specs.Fields.{each_of, int32, int32_of, last_or, number_in, numbers, payload_in, payloads, records_in, repeated_string, utf8, value_of_text}
use Rattle.rpc.specs.declared.refusal.Refusal.{Refusal}
use Rattle.rpc.specs.declared.refusal.Refusal.TheVariants.{MalformedMessage}
use Rattle.cas_service.specs.Requests.{message_or_refusal}
use Rattle.cas_service.specs.Entries.{HeadValue, head_of, name_in, function_in, with_head, with_heads, with_heads_left, no_head}

-- ---- the two by themselves

names_along : List ℕ → List Record → Result (List ℕ) Refusal
names_along name [] = Ok name
names_along name (r ∷ rs) = name_in name (payload_in 1 r) >>= λ next. names_along next rs

functions_along : ℕ → ℤ → List Record → ℤ
functions_along field z [] = z
functions_along field z (r ∷ rs) = functions_along field (function_in z (number_in field r)) rs

side_by_side : (field : ℕ) (h : HeadValue) (rs : List Record) →
    with_heads field h rs ≡ (names_along h.instance_name rs >>= λ name. Ok
    (record { instance_name = name; digest_function = functions_along field h.digest_function rs }))
unfolding names_along functions_along
side_by_side field h [] = refl
side_by_side field h (r ∷ rs) = go (name_in h.instance_name (payload_in 1 r)) (λ g. side_by_side field g rs) where
  z : ℤ
  z = function_in h.digest_function (number_in field r)

  go : (x : Result (List ℕ) Refusal) → ((g : HeadValue) →
      with_heads field g rs ≡ (names_along g.instance_name rs >>= λ name. Ok
      (record { instance_name = name; digest_function = functions_along field g.digest_function rs })))
      → ((x >>= λ name. Ok (record { instance_name = name; digest_function = z })) >>= λ g. with_heads field g rs)
      ≡ ((x >>= λ next. names_along next rs) >>= λ name. Ok
      (record { instance_name = name; digest_function = functions_along field z rs }))
  go (Err e) later = refl
  go (Ok name) later = later (record { instance_name = name; digest_function = z })

names_are : (name : List ℕ) (rs : List Record) →
    names_along name rs ≡ message_or_refusal (repeated_string 1 rs >>= λ texts. Ok (last_or name texts))
unfolding names_along payloads each_of last_or
names_are name [] = refl
names_are name (r ∷ rs) = go (payload_in 1 r) refl (λ next. names_are next rs) where
  value : (b : List ℕ) (x : Result (List ℕ) MessageError) → utf8 b ≡ x →
      ((next : List ℕ) → names_along next rs ≡ message_or_refusal (repeated_string 1 rs >>= λ texts. Ok (last_or next texts)))
      → (message_or_refusal x >>= λ next. names_along next rs)
      ≡ message_or_refusal ((x >>= λ t. repeated_string 1 rs >>= λ ts. Ok (t ∷ ts)) >>= λ texts. Ok (last_or name texts))
  value b (Err e) is later = refl
  value b (Ok t) is later = later t ∙ rest (repeated_string 1 rs) where
    rest : (y : Result (List (List ℕ)) MessageError) →
        message_or_refusal (y >>= λ texts. Ok (last_or t texts))
        ≡ message_or_refusal ((y >>= λ ts. Ok (t ∷ ts)) >>= λ texts. Ok (last_or name texts))
    rest (Err e) = refl
    rest (Ok ts) = refl

  go : (o : Option (List ℕ)) → payload_in 1 r ≡ o →
      ((next : List ℕ) → names_along next rs ≡ message_or_refusal (repeated_string 1 rs >>= λ texts. Ok (last_or next texts))) →
      names_along name (r ∷ rs) ≡ message_or_refusal (repeated_string 1 (r ∷ rs) >>= λ texts. Ok (last_or name texts))
  go None is later = rw is (later name)
  go (Some b) is later = rw is (value b (utf8 b) refl later)

functions_are : (field n : ℕ) (rs : List Record) → functions_along field (int32_of n) rs ≡ int32_of (last_or n (numbers field rs))
unfolding functions_along numbers last_or
functions_are field n [] = refl
functions_are field n (r ∷ rs) = go (number_in field r) refl (λ m. functions_are field m rs) where
  go : (o : Option ℕ) → number_in field r ≡ o → ((m : ℕ) →
      functions_along field (int32_of m) rs ≡ int32_of (last_or m (numbers field rs))) →
      functions_along field (int32_of n) (r ∷ rs) ≡ int32_of (last_or n (numbers field (r ∷ rs)))
  go None is later = rw is (later n)
  go (Some m) is later = rw is (later m)

-- ---- both

heads_are : (field : ℕ) (rs : List Record) → with_heads field no_head rs ≡ message_or_refusal (head_of field rs)
heads_are field rs =
    side_by_side field no_head rs
    ∙ rw (names_are [] rs, functions_are field 0 rs) (go (repeated_string 1 rs)) where
      whole : List ℕ → HeadValue
      whole name = record { instance_name = name; digest_function = int32 field rs }

      go : (x : Result (List (List ℕ)) MessageError) →
          (message_or_refusal (x >>= λ texts. Ok (last_or [] texts)) >>= λ name. Ok (whole name))
          ≡ message_or_refusal ((x >>= λ texts. Ok (last_or [] texts)) >>= λ name. Ok (whole name))
      go (Err e) = refl
      go (Ok ts) = refl

pub head_is : (field : ℕ) (text : List ℕ) → with_heads_left field no_head (records_of text)
    ≡ message_or_refusal (value_of_text (head_of field) text)
unfolding records_in
head_is field text = go (records_of text) where
  go : (rs : Result (List Record) WireError) → with_heads_left field no_head rs ≡ message_or_refusal (of_wire rs >>= head_of field)
  go (Err e) = refl
  go (Ok rs) = heads_are field rs

-- ---- the loop's step

pub left_next : (field : ℕ) (h : HeadValue) (r : Record) (rest : Result (List Record) WireError) →
    with_heads_left field h (rest >>= λ rs. Ok (r ∷ rs)) ≡ (with_head field h r >>= λ g. with_heads_left field g rest)
left_next field h r (Ok rs) = refl
left_next field h r (Err e) = go (payload_in 1 r) where
  value : (x : Result (List ℕ) MessageError) → Err MalformedMessage
      ≡ ((message_or_refusal x >>= λ name. Ok (record
      { instance_name = name; digest_function = function_in h.digest_function (number_in field r) })) >>= λ g. with_heads_left field g
      (Err e))
  value (Ok t) = refl
  value (Err f) = refl

  go : (o : Option (List ℕ)) → Err MalformedMessage
      ≡ ((name_in h.instance_name o >>= λ name. Ok
      (record { instance_name = name; digest_function = function_in h.digest_function (number_in field r) })) >>= λ g. with_heads_left field
      g (Err e))
  go None = refl
  go (Some b) = value (utf8 b)
