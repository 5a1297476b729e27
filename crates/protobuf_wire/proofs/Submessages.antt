-- An embedded message means its payloads joined, which is what the records of each of them, joined,
-- mean.
use Rattle.std.proofs.Common.{◌≡◌, ℕ, List, [], ◌∷◌, ◌++◌, length, Option, Some, None, Result, Ok, Err, refl, sym, ap, ◌∙◌, append_assoc, arith}
use Rattle.std.specs.List.{concat}
use Rattle.std.proofs.lemmas.List.{append-nil}
use Rattle.protobuf_wire.specs.declared.field.WireError.{WireError}
use Rattle.protobuf_wire.specs.Results.{◌>>=◌}
use Rattle.protobuf_wire.specs.Record.{Record}
use Rattle.protobuf_wire.specs.Reading.{records_of}
use Rattle.protobuf_wire.proofs.Texts.{reads_spelled, spells_read, spells_joined}
use Rattle.protobuf_wire.specs.declared.error.MessageError.{MessageError}
use Rattle.protobuf_wire.specs.Answers.{of_wire}
use Rattle.protobuf_wire.specs.Fields.{records_in, value_of_text, each_of, joined_value, payloads, embedded_value, octets, last_or}
use Rattle.protobuf_wire.specs.Joining.{joined_records, optional_value, value_of_one, embedded_value_by_records}

lifted_ok : (r : Result (List Record) WireError) (rs : List Record) → of_wire r ≡ Ok rs → r ≡ Ok rs
lifted_ok (Ok x) rs e = cc
lifted_ok (Err w) rs e = absurd cc

-- two texts that are well formed are so one after the other
pub parsed_append : (t u : List ℕ) (rs ss : List Record) → records_in t ≡ Ok rs → records_in u ≡ Ok ss → records_in (t ++ u) ≡ Ok (rs ++ ss)
unfolding records_in
parsed_append t u rs ss h g = rw (reads_spelled (t ++ u) (rs ++ ss)
    (spells_joined t rs u ss (spells_read t rs (lifted_ok (records_of t) rs h)) (spells_read u ss (lifted_ok (records_of u) ss g)))) refl

-- whether all were answered, whatever the answers are
passes_next : {A B : Type 0} (x : A) (rest : Result (List A) MessageError) (then : Result B MessageError) →
    ((rest >>= λ xs. Ok (x ∷ xs)) >>= λ _. then) ≡ (rest >>= λ _. then)
passes_next x (Ok xs) then = refl
passes_next x (Err e) then = refl

module _ {V : Type 0} (value_of : List Record → Result V MessageError) where
  abbrev some_of : List ℕ → Result (Option V) MessageError
  some_of t = value_of_text value_of t >>= λ v. Ok (Some v)

  with_more : (t : List ℕ) (rs : List Record) (ps : List (List ℕ)) → records_in t ≡ Ok rs →
      (each_of records_in ps >>= λ _. some_of (t ++ concat ps)) ≡ (joined_records (Some rs) ps >>= optional_value value_of)
  unfolding each_of joined_records
  with_more t rs [] h = ap some_of (append-nil t) ∙ ap (λ (r : Result (List Record) MessageError). (r >>= value_of) >>= λ v. Ok (Some v)) h
  with_more t rs (p ∷ ps) h = go (records_in p) refl (λ u all k. with_more u all ps k) where
    go : (r : Result (List Record) MessageError) → records_in p ≡ r →
        ((u : List ℕ) (all : List Record) → records_in u ≡ Ok all →
        (each_of records_in ps >>= λ _. some_of (u ++ concat ps)) ≡ (joined_records (Some all) ps >>= optional_value value_of))
        → ((r >>= λ y. each_of records_in ps >>= λ ys. Ok (y ∷ ys)) >>= λ _. some_of (t ++ concat (p ∷ ps)))
        ≡ (((r >>= λ more. Ok (rs ++ more)) >>= λ all. joined_records (Some all) ps) >>= optional_value value_of)
    go (Err d) q ih = refl
    go (Ok more) q ih = passes_next more (each_of records_in ps) (some_of (t ++ concat (p ∷ ps)))
        ∙ ap (λ (u : List ℕ). each_of records_in ps >>= λ _. some_of u) (sym (append_assoc t p (concat ps)))
        ∙ ih (t ++ p) (rs ++ more) (parsed_append t p rs more h q)

  from_none : (ps : List (List ℕ)) → (each_of records_in ps >>= λ _. joined_value value_of ps)
      ≡ (joined_records None ps >>= optional_value value_of)
  unfolding each_of joined_records
  from_none [] = refl
  from_none (p ∷ ps) = go (records_in p) refl where
    go : (r : Result (List Record) MessageError) → records_in p ≡ r →
        ((r >>= λ y. each_of records_in ps >>= λ ys. Ok (y ∷ ys)) >>= λ _. some_of (concat (p ∷ ps)))
        ≡ (((r >>= λ more. Ok ([] ++ more)) >>= λ all. joined_records (Some all) ps) >>= optional_value value_of)
    go (Err d) q = refl
    go (Ok rs) q = passes_next rs (each_of records_in ps) (some_of (concat (p ∷ ps))) ∙ with_more p rs ps q

  pub embedded_is_joined : (field : ℕ) (rs : List Record) → embedded_value value_of field rs ≡ embedded_value_by_records value_of field rs
  embedded_is_joined field rs = from_none (payloads field rs)

  -- ---- where there is at most one payload

  abbrev Embeds : List (List ℕ) → Result (Option V) MessageError → Type 0
  Embeds ps meaning = (each_of records_in ps >>= λ _. joined_value value_of ps) ≡ meaning

  from_one : (p : List ℕ) → Embeds (p ∷ []) (some_of p)
  unfolding each_of
  from_one p = ap (λ (u : List ℕ). each_of records_in (p ∷ []) >>= λ _. some_of u) (append-nil p) ∙ go (records_in p) where
    go : (r : Result (List Record) MessageError) →
        ((r >>= λ y. Ok (y ∷ [])) >>= λ _. ((r >>= value_of) >>= λ v. Ok (Some v))) ≡ ((r >>= value_of) >>= λ v. Ok (Some v))
    go (Err d) = refl
    go (Ok rs) = refl

  at_most_one : (ps : List (List ℕ)) → length ps ≡ 1 → Embeds ps (some_of (last_or [] ps))
  unfolding last_or
  at_most_one [] e = absurd (omega arith)
  at_most_one (p ∷ []) e = from_one p
  at_most_one (p ∷ q ∷ ps) e = absurd (omega arith)

  none_at_all : (ps : List (List ℕ)) → length ps ≡ 0 → Embeds ps (Ok None)
  unfolding each_of
  none_at_all [] e = refl
  none_at_all (p ∷ ps) e = absurd (omega arith)

  pub embedded_never : (field : ℕ) (rs : List Record) → length (payloads field rs) ≡ 0 → embedded_value value_of field rs ≡ Ok None
  embedded_never field rs e = none_at_all (payloads field rs) e

  pub embedded_once : (field : ℕ) (rs : List Record) → length (payloads field rs) ≡ 1 →
      embedded_value value_of field rs ≡ value_of_one value_of (octets field rs)
  embedded_once field rs e = at_most_one (payloads field rs) e
