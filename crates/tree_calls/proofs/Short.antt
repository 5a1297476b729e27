-- How long replies are, and how many results there are.
use Rattle.std.proofs.Common.{◌≡◌, ℕ, zero, suc, ◌+◌, ◌-◌, ◌^◌, ◌<◌, ◌≤◌, inl, inr, Bool, true, false, cond, List, [], ◌∷◌, length, map, drop, Option, Some, None, Result, Ok, Err, is_some, refl, sym, ap, subst, ◌∙◌, arith, leb-true, if◌then◌else◌}
use Rattle.std.specs.Prelude.{nat_le, nat_lt, unwrap_or, option_map}
use Rattle.std.specs.Fmt.{decimal}
use Rattle.std.specs.List.{AllByRecursion, concat, flat_map}
use Rattle.std.specs.Map.{lookup, remove_entry}
use Rattle.std.proofs.lemmas.Fmt.{length-decimal-le}
use Rattle.std.proofs.lemmas.List.{length-append, length-drop}
use Rattle.protobuf_wire.specs.declared.error.MessageError.{MessageError}
use Rattle.protobuf_wire.specs.Fields.{value_of_text, payloads, embedded_value, sent_bytes, string, int32, joined_payloads}
use Rattle.protobuf_wire.specs.Parts.{repeated_octets_field, string_field}
use Rattle.protobuf_wire.proofs.Tools.{bind_ok, ok_is}
use Rattle.digest.specs.declared.Digest.{Digest}
use Rattle.digest.specs.Naming.{same_digest}
use Rattle.instance_view.specs.Visible.{Blob, with_match_first, blobs_length}
use Rattle.instance_view.proofs.Visibles.{blobs_length-with_match_first, length-with_match_first}
use Rattle.reapi_messages.specs.Digests.{digest_of}
use Rattle.tree_messages.specs.GetTree.{GetTreeResponseValue}
use Rattle.tree_messages.specs.ActionCache.{UpdateActionResultRequestValue, update_action_result_request_of}
use Rattle.tree_messages.specs.Directories.{DirectoryValue, directory_of}
use Rattle.tree_messages.specs.Results.{action_result_of}
use Rattle.input_tree.specs.Directories.{valid_directory, child_digests}
use Rattle.input_tree.specs.Listing.{Lookup, children_of_text}
use Rattle.input_tree.specs.Pages.{page_bytes, page_text, place_asked, place_within, text_or_none, texts}
use Rattle.input_tree.specs.Number.{decimal_of}
use Rattle.action_cache.specs.Results.{front_within}
use Rattle.action_cache.specs.Answering.{blobs_for}
use Rattle.cas_service.specs.Requests.{message_or_refusal, instance_check, function_asked, digest_or_refusal}
use Rattle.rpc.specs.declared.refusal.Refusal.{Refusal}
use Rattle.tree_calls.specs.Asking.{ResultSentValue, action_asked, result_sent}
use Rattle.tree_calls.specs.GetTree.{texts_seen, get_tree_replies}
use Rattle.tree_calls.specs.Results.{after_asking, after_get, after_sending, after_update, get_action_result_reply, update_action_result_reply}
use Rattle.tree_calls.specs.Lists.{IsDirectory}
use Rattle.tree_calls.specs.Pages.{IsPageBounded, AreContinued, token_before, directories_of}
use Rattle.tree_calls.specs.Complete.{LimitsValue, IsLimits, AreResultsWithin}
use Rattle.tree_calls.proofs.Sizes.{bytes_written, both_written, message_written, payloads_weight, read_from, sizes}
use Rattle.tree_calls.proofs.Whole.{whole_from}
use Rattle.tree_calls.proofs.Pages.{list_given}
use Rattle.tree_calls.proofs.Named.{all_dropped, all_front, result_complete}

-- ---- pages

abbrev IsShort : ℕ → List ℕ → Type 0
IsShort n t = length t ≤ n

bounded_by : (n : ℕ) (t : List ℕ) (r : Option DirectoryValue) →
    is_some (option_map child_digests (if nat_le (length t) n then r else None)) ≡ true → length t ≤ n
bounded_by n t r h = go (nat_le (length t) n) refl h where
  go : (b : Bool) → nat_le (length t) n ≡ b → is_some (option_map child_digests (if b then r else None)) ≡ true → length t ≤ n
  go true is h = leb-true (length t) n is
  go false is h = absurd (cc)

directory_short : (look : Lookup) (d : Digest) → IsDirectory look d → IsShort 67108864 (text_or_none look d)
directory_short look d h = go (look d) h where
  go : (o : Option (List ℕ)) → is_some (children_of_text o) ≡ true → length (unwrap_or o []) ≤ 67108864
  go None h = absurd (cc)
  go (Some t) h = bounded_by 67108864 t (valid_directory (value_of_text directory_of t)) h

texts_short : (look : Lookup) (ds : List Digest) → AllByRecursion (IsDirectory look) ds → AllByRecursion (IsShort 67108864) (texts look ds)
texts_short look [] h = tt
texts_short look (d ∷ ds) h = (directory_short look d h.0, texts_short look ds h.1)

records_short : (n size : ℕ) (page : GetTreeResponseValue) → 4000000 ≤ n → n < 2 ^ 64 → IsPageBounded size page →
    AllByRecursion (IsShort n) page.directories → page_bytes page.directories ≤ 20 + n
records_short n size page most fits bounded short = elim bounded.short [
  | inl h ↦ omega (arith, h, most)
  | inr one ↦ go page.directories one short
] where
  go : (ds : List (List ℕ)) → length ds ≡ 1 → AllByRecursion (IsShort n) ds → page_bytes ds ≤ 20 + n
  go [] one short = absurd (omega (arith, one))
  go (d ∷ e ∷ ds) one short = absurd (omega (arith, one))
  go (d ∷ []) one short = let len = short.0 in let written = message_written 1 d (omega arith) (omega (arith, len, fits)) in
      omega (arith, len, written)

page_short : (n size : ℕ) (page : GetTreeResponseValue) → 4000000 ≤ n → n < 2 ^ 31 → IsPageBounded size page →
    AllByRecursion (IsShort n) page.directories → length page.next_page_token ≤ 20 → length (page_text page) < 2 ^ 32
page_short n size page most fits bounded short token =
    let records = records_short n size page most (omega (arith, fits)) bounded short in
    let written = bytes_written 2 page.next_page_token (omega arith) (omega (arith, token)) in
    let both = both_written (repeated_octets_field 1 page.directories) (string_field 2 page.next_page_token) in
    omega (arith, records, written, both, token, fits)

token_short : (place : ℕ) (pages : List GetTreeResponseValue) → place < 2 ^ 64 → length (token_before place pages) ≤ 20
token_short place [] h = omega arith
token_short place (p ∷ ps) h = length-decimal-le 20 place (omega arith) (omega (arith, h)) h

all_short : (n size place : ℕ) (pages : List GetTreeResponseValue) → 4000000 ≤ n → n < 2 ^ 31 →
    place + length (directories_of pages) < 2 ^ 64 → AreContinued place pages → AllByRecursion (IsPageBounded size) pages →
    AllByRecursion (IsShort n) (directories_of pages)
    → AllByRecursion (λ m. length m < 2 ^ 32) (map page_text pages)
all_short n size place [] most fits room continued bounded short = tt
all_short n size place (p ∷ ps) most fits room continued bounded short =
    let parts = all_front (IsShort n) p.directories (directories_of ps) short in
    let count = length-append p.directories (directories_of ps) in
    let next = token_short (place + length p.directories) ps (omega (arith, count, room)) in
    let token : length p.next_page_token ≤ 20 = rw continued.0 next in (
      page_short n size p most fits bounded.0 parts.0 token,
      all_short n size (place + length p.directories) ps most fits
          (omega (arith, count, room)) continued.1 bounded.1 parts.1,
    )

place_fits : (token : List ℕ) (count place : ℕ) → place_asked token count ≡ Some place → place ≤ count
place_fits token count place h = go (Rattle.std.specs.Prelude.nat_eq (length token) 0) h where
  within : (o : Option ℕ) → place_within count o ≡ Some place → place ≤ count
  within None h = absurd (cc)
  within (Some p) h = test p (nat_le p count) refl h where
    test : (p : ℕ) (b : Bool) → nat_le p count ≡ b → (if b then Some p else None) ≡ Some place → place ≤ count
    test p true le h = let e : p ≡ place = cc in rw (← e) (leb-true p count le)
    test p false le h = absurd (cc)

  go : (b : Bool) → (if b then Some 0 else place_within count (decimal_of token)) ≡ Some place → place ≤ count
  go true h = let e : 0 ≡ place = cc in rw (← e) (omega arith)
  go false h = within (decimal_of token) h

texts_count : (look : Lookup) (ds : List Digest) → length (texts look ds) ≡ length ds
texts_count look [] = refl
texts_count look (d ∷ ds) = ap (λ (n : ℕ). suc n) (texts_count look ds)

pub get_tree_short : (own : List ℕ) (visible : List Blob) (request : List ℕ) (messages : List (List ℕ)) →
    get_tree_replies own visible request ≡ Ok messages → AllByRecursion (λ m. length m < 2 ^ 32) messages
get_tree_short own visible request messages h =
    let look = texts_seen visible in
    let g = list_given own visible request messages h in
    let w = whole_from 10000 look g.asked.root g.listed g.is_listed in
    let few = w.1 in
    let rest = drop g.place g.listed in
    let dirs = all_dropped (IsDirectory look) g.place g.listed w.0.directories in
    let short = subst (AllByRecursion (IsShort 67108864)) (sym g.given.joined) (texts_short look rest dirs) in
    let place = place_fits g.asked.page_token (length g.listed) g.place g.is_place in
    let dropped : length rest ≡ length g.listed - g.place = length-drop g.place g.listed in
    let count : length (directories_of g.given.pages) ≡ length rest = ap (length {A = List ℕ}) g.given.joined ∙ texts_count look rest in
    let room : g.place + length (directories_of g.given.pages) < 2 ^ 64 = omega (arith, count, dropped, place, few) in
    subst (AllByRecursion (λ (m : List ℕ). length m < 2 ^ 32)) (sym g.given.written)
    (all_short 67108864 g.size g.place g.given.pages (omega arith) (omega arith) room g.given.continued g.given.bounded short)

-- ---- results

stored_short : (t : Digest → Bool) (results : List Blob) (reply : List ℕ) → lookup t results ≡ Some reply →
    length reply ≤ blobs_length results
stored_short t [] reply h = absurd (cc)
stored_short t (b ∷ bs) reply h = go (t b.0) h (stored_short t bs reply) where
  go : (c : Bool) → cond c (Some b.1) (lookup t bs) ≡ Some reply → (lookup t bs ≡ Some reply → length reply ≤ blobs_length bs) →
      length reply ≤ length b.1 + blobs_length bs
  go true h later = let e : b.1 ≡ reply = cc in rw (← e) (omega arith)
  go false h later = let rest = later h in omega (arith, rest)

pub get_action_result_short : (limits : LimitsValue) (own : List ℕ) (visible results : List Blob) (request reply : List ℕ) →
    IsLimits limits → AreResultsWithin limits results → get_action_result_reply own visible results request ≡ Ok reply →
    length reply < 2 ^ 32
get_action_result_short limits own visible results request reply good within h =
    let c = result_complete own visible results request reply h in
    let one = stored_short (same_digest c.action) results reply c.is_stored in
    let all = within.short in
    let most = good.short_results in
    omega (arith, one, all, most)

concat_short : (ps : List (List ℕ)) → length (concat ps) ≤ sizes ps
concat_short [] = omega arith
concat_short (p ∷ ps) = let rest = concat_short ps in let both = length-append p (concat ps) in omega (arith, rest, both)

joined_short : (ps : List (List ℕ)) → length (unwrap_or (joined_payloads ps) []) ≤ sizes ps
joined_short [] = omega arith
joined_short (p ∷ ps) = concat_short (p ∷ ps)

readable_ok : {V : Type 0} (r : Result V MessageError) (v : V) → message_or_refusal r ≡ Ok v → r ≡ Ok v
readable_ok (Ok x) v h = cc
readable_ok (Err e) v h = absurd (cc)

request_short : (request : List ℕ) (v : UpdateActionResultRequestValue) → value_of_text update_action_result_request_of request ≡ Ok v →
    length (unwrap_or v.action_result []) ≤ length request
unfolding update_action_result_request_of
request_short request v h =
    let r = read_from update_action_result_request_of request v h in
    let name = bind_ok (string 1 r.records) _ v r.means in
    let action = bind_ok (embedded_value digest_of 2 r.records) _ v name.2 in
    let result = bind_ok (sent_bytes action_result_of 3 r.records) _ v action.2 in
    let e = ok_is (record {
      instance_name = name.0;
      action_digest = action.0;
      action_result = result.0;
      digest_function =
          int32 5 r.records;
    }) v result.2 in
    let read = bind_ok (embedded_value action_result_of 3 r.records) _ result.0 result.1 in
    let f = ok_is (joined_payloads (payloads 3 r.records)) result.0 read.2 in
    let short = joined_short (payloads 3 r.records) in
    let whole_size = payloads_weight 3 r.records in
    let light = r.light in
    rw (← e, ← f) (omega (arith, short, whole_size, light))

pub sent_short : (own request : List ℕ) (sent : ResultSentValue) → result_sent own request ≡ Ok sent → length sent.text ≤ length request
unfolding result_sent
sent_short own request sent h =
    let q = bind_ok (message_or_refusal (value_of_text update_action_result_request_of request)) _ sent h in
    let short = request_short request q.0 (readable_ok (value_of_text update_action_result_request_of request) q.0 q.1) in
    let i = bind_ok (instance_check own q.0.instance_name) _ sent q.2 in
    let f = bind_ok (function_asked q.0.digest_function) _ sent i.2 in
    let d = bind_ok (digest_or_refusal f.0 q.0.action_digest) _ sent f.2 in
    let e = ok_is (record { action = d.0; text = unwrap_or q.0.action_result [] }) sent d.2 in
    rw (← e) short

pub update_action_result_short : (own request reply : List ℕ) → length request ≤ 4194304 →
    update_action_result_reply own request ≡ Ok reply → length reply < 2 ^ 32
update_action_result_short own request reply most h =
    let s = bind_ok (result_sent own request) _ reply h in
    let short = sent_short own request s.0 s.1 in
    let e = ok_is s.0.text reply s.2 in
    rw (← e) (omega (arith, short, most))

-- ---- the limits of results

front_few : (n room : ℕ) (bs : List Blob) → length (front_within n room bs) ≤ n
unfolding front_within
front_few zero room bs = omega arith
front_few (suc n) room [] = omega arith
front_few (suc n) room (b ∷ bs) = go (nat_le (length b.1) room) (front_few n (room - length b.1) bs) where
  go : (c : Bool) → length (front_within n (room - length b.1) bs) ≤ n →
      length (if c then b ∷ front_within n (room - length b.1) bs else []) ≤ suc n
  go true ih = omega (arith, ih)
  go false ih = omega arith

front_short : (n room : ℕ) (bs : List Blob) → blobs_length (front_within n room bs) ≤ room
unfolding front_within
front_short zero room bs = omega arith
front_short (suc n) room [] = omega arith
front_short (suc n) room (b ∷ bs) = go (nat_le (length b.1) room) refl (front_short n (room - length b.1) bs) where
  go : (c : Bool) → nat_le (length b.1) room ≡ c → blobs_length (front_within n (room - length b.1) bs) ≤ room - length b.1 →
      blobs_length (if c then b ∷ front_within n (room - length b.1) bs else []) ≤ room
  go true is ih = let le = leb-true (length b.1) room is in omega (arith, ih, le)
  go false is ih = omega arith

pub fronted_within : (limits : LimitsValue) (t : Digest → Bool) (results : List Blob) → AreResultsWithin limits results →
    AreResultsWithin limits (with_match_first t results)
fronted_within limits t results within = record {
  few = rw (length-with_match_first t results) within.few;
  short = rw (blobs_length-with_match_first t results) within.short;
}

pub get_stays_within : (limits : LimitsValue) (own : List ℕ) (visible results : List Blob) (request : List ℕ) →
    AreResultsWithin limits results → AreResultsWithin limits (after_get own visible results request)
get_stays_within limits own visible results request within = go (action_asked own request) where
  test : (action : Digest) (b : Bool) → AreResultsWithin limits (if b then with_match_first (same_digest action) results else results)
  test action true = fronted_within limits (same_digest action) results within
  test action false = within

  go : (r : Result Digest Refusal) → AreResultsWithin limits (after_asking visible results r)
  go (Err refusal) = within
  go (Ok action) = test action (is_some (blobs_for (texts_seen visible) action results))

pub front_is_within : (limits : LimitsValue) (bs : List Blob) → AreResultsWithin limits (front_within limits.results limits.result_bytes bs)
front_is_within limits bs = record {
  few = front_few limits.results limits.result_bytes bs;
  short =
      front_short limits.results limits.result_bytes bs;
}

pub update_stays_within : (limits : LimitsValue) (own : List ℕ) (results : List Blob) (request : List ℕ) → AreResultsWithin limits results →
    AreResultsWithin limits (after_update own limits results request)
update_stays_within limits own results request within = go (result_sent own request) where
  test : (bs : List Blob) (b : Bool) → AreResultsWithin limits (if b then results else front_within limits.results limits.result_bytes bs)
  test bs true = within
  test bs false = front_is_within limits bs

  go : (r : Result ResultSentValue Refusal) → AreResultsWithin limits (after_sending limits results r)
  go (Err refusal) = within
  go (Ok sent_bytes) = test ((sent_bytes.action, sent_bytes.text) ∷ remove_entry (same_digest sent_bytes.action) results)
      (nat_lt limits.result_bytes (length sent_bytes.text))
