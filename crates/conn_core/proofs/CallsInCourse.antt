-- What is kept of the streams and calls says which calls are in course: whether one is that its
-- client sent whole, and how many few more bytes may make whole.
use Rattle.std.proofs.Common.{◌≡◌, ◌+◌, ℕ, List, [], ◌∷◌, length, map, refl, ap, sym, ◌∙◌, arith}
use Rattle.std.specs.Prelude.{◌&&◌, ◌||◌, ◌==◌, if◌then◌else◌, cond, nat_lt, Bool, true, false, not, fold, filter, count_by, Option, Some, None, Result}
use Rattle.std.specs.List.{list_any}
use Rattle.std.specs.Option.{option_map_or}
use Rattle.http2_streams.specs.declared.stream.Stream.{Stream}
use Rattle.http2_streams.specs.History.{Entry, is_ended_by_client, is_not_closed, live_streams, opened_streams, has_failed}
use Rattle.http2_streams.specs.Standing.{stream_at}
use Rattle.grpc_messages.specs.Reader.{may_end_in}
use Rattle.grpc_messages.specs.declared.error.MessagesError.{MessagesError}
use Rattle.grpc_sending.specs.StoredSending.{SourceTexts}
use Rattle.conn_core.specs.declared.call.Call.{Call}
use Rattle.conn_core.specs.Calls.{is_call}
use Rattle.conn_core.specs.Past.{Past}
use Rattle.conn_core.specs.StandsFor.{ConnectionValue, IsConnection, IsRestOfCall, call_on}
use Rattle.conn_core.specs.CallsInCourse.{few_bytes, has_calls, half_calls, is_half, is_near_end, is_near_end_on, is_kept_half, part_of_message}

by_fault : (b x y : Bool) → (b ≡ false → x ≡ y) → (not b && x) ≡ (not b && y)
by_fault true x y s = refl
by_fault false x y s = s refl

any_mapped : {A B : Type 0} (test : B → Bool) (f : A → B) (xs : List A) → list_any test (map f xs) ≡ list_any (λ x. test (f x)) xs
any_mapped test f [] = refl
any_mapped test f (x ∷ xs) = ap (λ b. test (f x) || b) (any_mapped test f xs)

abbrev pub is_whole : Stream → Bool
is_whole s = s.ended_by_client

pub same_calls : (texts : SourceTexts) (v : ConnectionValue) (p : Past) → IsConnection texts v p →
    (not v.ended && list_any is_whole v.streams.live) ≡ has_calls p.history
same_calls texts v p s =
    ap (λ (b : Bool). not b && list_any is_whole v.streams.live) s.ended
    ∙ by_fault (has_failed p.history) (list_any is_whole v.streams.live) (list_any (is_ended_by_client p.history) (live_streams p.history))
    (λ lives.
    ap (λ x. list_any is_whole x.live) (s.streams.state lives).is ∙ any_mapped is_whole (stream_at p.history) (live_streams p.history))

-- ---- calls of which a part came

abbrev call_near_end : Call → Bool
call_near_end c = is_near_end c.messages

neither : (x y : Bool) → (x || y) ≡ false → (x ≡ false) × (y ≡ false)
neither true y h = cc
neither false y h = (refl, h)

not_on : (b : Bool) (messages : Result (List ℕ) MessagesError) (o : Option (Result (List ℕ) MessagesError)) → is_near_end messages ≡ false →
    option_map_or is_near_end o false ≡ false → option_map_or is_near_end (if b then Some messages else o) false ≡ false
not_on true messages o here later = here
not_on false messages o here later = later

none_on : (s : ℕ) (cs : List Call) → list_any call_near_end cs ≡ false → is_near_end_on s cs ≡ false
none_on s [] h = refl
none_on s (c ∷ cs) h =
    let both = neither (call_near_end c) (list_any call_near_end cs) h in
    not_on (c.stream == s) c.messages (call_on s cs) both.0 (none_on s cs both.1)

not_both : (a b : Bool) → b ≡ false → (a && b) ≡ false
not_both true b h = h
not_both false b h = refl

none_more : (b : Bool) (n : ℕ) → b ≡ false → n ≡ n + cond b 1 0
none_more true n h = cc
none_more false n h = omega arith

none_counted : {A : Type 0} (test : A → Bool) → ((x : A) → test x ≡ false) → (n : ℕ) (xs : List A) →
    n ≡ fold (λ (a : ℕ) (x : A). a + cond (test x) 1 0) n xs
none_counted test h n [] = refl
none_counted test h n (x ∷ xs) = none_more (test x) n (h x) ∙ none_counted test h (n + cond (test x) 1 0) xs

pub none_half : (cs : List Call) (live : List Stream) → list_any call_near_end cs ≡ false → 0 ≡ count_by (is_kept_half cs) live
none_half cs live h = none_counted (is_kept_half cs)
    (λ (s : Stream). not_both (not s.ended_by_client) (is_near_end_on s.number cs) (none_on s.number cs h)) 0 live

none_by_fault : (b : Bool) (x y : ℕ) → (b ≡ false → x ≡ y) → (if b then 0 else x) ≡ (if b then 0 else y)
none_by_fault true x y s = refl
none_by_fault false x y s = s refl

folded_mapped : {A B : Type 0} (step : ℕ → B → ℕ) (f : A → B) (n : ℕ) (xs : List A) →
    fold step n (map f xs) ≡ fold (λ a x. step a (f x)) n xs
folded_mapped step f n [] = refl
folded_mapped step f n (x ∷ xs) = folded_mapped step f (step n (f x)) xs

count_mapped : {A B : Type 0} (test : B → Bool) (f : A → B) (xs : List A) → count_by test (map f xs) ≡ count_by (λ x. test (f x)) xs
count_mapped test f xs = folded_mapped (λ a y. a + cond (test y) 1 0) f 0 xs

abbrev counted : {A : Type 0} → (A → Bool) → ℕ → List A → ℕ
counted test n xs = fold (λ a x. a + cond (test x) 1 0) n xs

alike_by : {A : Type 0} (f g : A → Bool) (b : Bool) (x : A) (rest : List A) (n : ℕ) → (b ≡ true → f x ≡ g x) →
    ((m : ℕ) → counted f m rest ≡ counted g m rest) → counted f n (cond b (x ∷ rest) rest) ≡ counted g n (cond b (x ∷ rest) rest)
alike_by f g true x rest n e h = ap (λ (c : Bool). counted f (n + cond c 1 0) rest) (e refl) ∙ h (n + cond (g x) 1 0)
alike_by f g false x rest n e h = h n

counted_alike : {A : Type 0} (f g p : A → Bool) (n : ℕ) (xs : List A) → ((x : A) → p x ≡ true → f x ≡ g x) →
    counted f n (filter p xs) ≡ counted g n (filter p xs)
counted_alike f g p n [] h = refl
counted_alike f g p n (x ∷ xs) h = alike_by f g (p x) x (filter p xs) n (h x) (λ m. counted_alike f g p m xs h)

half_at : (d : List Entry) (s : ℕ) (o : Option (Result (List ℕ) MessagesError)) → IsRestOfCall d s o →
    option_map_or is_near_end o false ≡ (is_call d s && may_end_in few_bytes (part_of_message d s))
half_at d s None h = ap (λ (b : Bool). b && may_end_in few_bytes (part_of_message d s)) (sym h)
half_at d s (Some messages) h = ap is_near_end h.1 ∙ ap (λ (b : Bool). b && may_end_in few_bytes (part_of_message d s)) (sym h.0)

pub same_half_calls : (texts : SourceTexts) (v : ConnectionValue) (p : Past) → IsConnection texts v p →
    (if v.ended then 0 else count_by (is_kept_half v.calls) v.streams.live) ≡ half_calls p.history
same_half_calls texts v p s =
    let d = p.history in
    ap (λ (b : Bool). if b then 0 else count_by (is_kept_half v.calls) v.streams.live) s.ended
    ∙ none_by_fault (has_failed d) (count_by (is_kept_half v.calls) v.streams.live) (count_by (is_half d) (live_streams d)) (λ lives.
    ap (λ x. count_by (is_kept_half v.calls) x.live) (s.streams.state lives).is
    ∙ (count_mapped (is_kept_half v.calls) (stream_at d) (live_streams d)
    ∙ counted_alike (λ (n : ℕ). is_kept_half v.calls (stream_at d n)) (is_half d) (is_not_closed d) 0 (opened_streams d)
    (λ n lives_on. ap (λ (b : Bool). not (is_ended_by_client d n) && b)
    (half_at d n (call_on n v.calls) ((s.alive lives).calls n lives_on)))))
