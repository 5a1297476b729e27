-- One more frame received that is a part of a header block.
use Rattle.std.proofs.Common.{◌≡◌, ℕ, ◌<◌, ◌≤◌, List, [], ◌∷◌, ◌++◌, refl, ap, ◌∙◌, sym, arith, inl, inr}
use Rattle.std.specs.Prelude.{map, filter, fold, max, sum_by, cond, Bool, true, false, not, ◌&&◌, ◌||◌, ◌==◌, nat_lt, Option, Some, None, Result, Ok, Err, pos, ◌-ℤ◌}
use Rattle.std.specs.List.{list_any}
use Rattle.std.proofs.lemmas.Bool.{cases_Bool, ltb-true, ltb-false}
use Rattle.std.proofs.lemmas.Bool.Decides.{nat_tests}
use Rattle.std.proofs.lemmas.List.Elements.{filter-append}
use Rattle.std.proofs.lemmas.List.Sums.{fold_push}
use Rattle.hpack.specs.declared.error.HpackError.{HpackError}
use Rattle.hpack.specs.Header.{Header}
use Rattle.hpack.specs.Table.{Table, new_table}
use Rattle.hpack.specs.Block.{step}
use Rattle.http2_frames.specs.declared.frame.Frame.{Frame}
use Rattle.http2_streams.specs.HeaderBlock.{HeaderBlock, is_excessive}
use Rattle.http2_streams.specs.declared.header_blocks.HeaderList.{HeaderList}
use Rattle.http2_streams.specs.Decoding.{list_of_block, state_after_block, list_of}
use Rattle.http2_streams.specs.declared.stream.Stream.{Stream}
use Rattle.http2_streams.specs.History.{Blocks, blocks_after, blocks_with, stream_of, rising_numbers, resets, data_ends, block_ends, size_after, increment_for, table_after_block}
use Rattle.http2_streams.specs.Standing.{Standing}
use Rattle.http2_streams.specs.Rules.{receives}
use Rattle.http2_streams.specs.Step.{after_client_end, new_stream, after_begin, with_live, with_headers, after_block, after_header_list}
use Rattle.http2_streams.proofs.Lists.{map_rising_agree, rising_numbers-push, map-append, any-push, append-nil}
use Rattle.http2_streams.proofs.Bools.{or_false, or-assoc, and_false, and_true}
use Rattle.http2_streams.proofs.Sides.{blocks_in, numbers, top, reset_in, ended_c, ended_s, alive, size, granted_in, spent_in, stream_by, at, streams_in, std_of, Untouched, Idle, sum-push, in-blocks, in-reset, in-size, begun_after}
use Rattle.http2_streams.proofs.Received.{marked_streams, marked, client_ends_always}

-- the frame says nothing but a part of a block
pub record IsFragment (g : Frame) : Type 0 where
  pub unreset : (t : ℕ) → resets t g ≡ false
  pub unended : (t : ℕ) → data_ends t g ≡ false
  pub ungranted : (t : ℕ) → increment_for t g ≡ 0
  pub unsized : (n : ℕ) → size_after n g ≡ n

-- what the client ended, by the blocks that are at their end then
abbrev ended_by : List Frame → List HeaderBlock → ℕ → Bool
ended_by rs bs t = list_any (data_ends t) rs || list_any (block_ends t) bs

ended_after : (rs : List Frame) (g : Frame) (bs : Blocks) (t : ℕ) → IsFragment g → blocks_after (blocks_in rs) g ≡ bs →
    ended_c (rs ++ g ∷ []) t ≡ ended_by rs bs.finished t
ended_after rs g bs t q is =
    ap (λ (x : Blocks). list_any (data_ends t) (rs ++ g ∷ []) || list_any (block_ends t) x.finished) (in-blocks rs g ∙ is)
    ∙ ap (λ b. b || list_any (block_ends t) bs.finished)
    (any-push (data_ends t) rs g ∙ ap (λ b. list_any (data_ends t) rs || b) (q.unended t) ∙ or_false (list_any (data_ends t) rs))

at_after : (rs ss : List Frame) (g : Frame) (bs : Blocks) (t : ℕ) → IsFragment g → blocks_after (blocks_in rs) g ≡ bs →
    at (rs ++ g ∷ []) ss t ≡ stream_by t (ended_by rs bs.finished t) (ended_s ss t) (size rs) (granted_in rs t) (spent_in ss t)
at_after rs ss g bs t q is =
    let c = ended_after rs g bs t q is in
    let i = in-size rs g ∙ q.unsized (size rs) in
    let n : granted_in (rs ++ g ∷ []) t ≡ granted_in rs t = sum-push (increment_for t) rs g ∙ omega (arith, q.ungranted t) in
    cc

alive_after : (rs ss : List Frame) (g : Frame) (bs : Blocks) (t : ℕ) → IsFragment g → blocks_after (blocks_in rs) g ≡ bs →
    alive (rs ++ g ∷ []) ss t ≡ (not (reset_in rs ss t) && not (ended_by rs bs.finished t && ended_s ss t))
alive_after rs ss g bs t q is =
    let c = ended_after rs g bs t q is in
    let r : reset_in (rs ++ g ∷ []) ss t ≡ reset_in rs ss t =
    in-reset rs ss g t ∙ ap (λ b. reset_in rs ss t || b) (q.unreset t) ∙ or_false (reset_in rs ss t) in
    cc

-- what the frame leaves, by the blocks then
by_blocks : (rs ss : List Frame) (g : Frame) (bs : Blocks) (h : ℕ) (l : List Stream) → IsFragment g → blocks_after (blocks_in rs) g ≡ bs
    → fold max 0 (map stream_of bs.finished) ≡ h → streams_in (rs ++ g ∷ []) ss ≡ l
    → std_of (rs ++ g ∷ []) ss ≡ record (after_begin (std_of rs ss))
    { highest = h; live = l; unfinished = bs.unfinished; table = fold table_after_block (Some new_table) bs.finished }
by_blocks rs ss g bs h l q is h-is l-is =
    let same : blocks_in (rs ++ g ∷ []) ≡ bs = in-blocks rs g ∙ is in
    let b = begun_after rs g in
    let t : top (rs ++ g ∷ []) ≡ h = ap (λ (x : Blocks). fold max 0 (map stream_of x.finished)) same ∙ h-is in
    let u : (blocks_in (rs ++ g ∷ [])).unfinished ≡ bs.unfinished = ap (λ (x : Blocks). x.unfinished) same in
    let e : fold table_after_block (Some new_table) (blocks_in (rs ++ g ∷ [])).finished
    ≡ fold table_after_block (Some new_table) bs.finished =
    ap (λ (x : Blocks). fold table_after_block (Some new_table) x.finished) same in
    let i : size (rs ++ g ∷ []) ≡ size rs = in-size rs g ∙ q.unsized (size rs) in
    let n : sum_by (increment_for 0) (rs ++ g ∷ []) ≡ sum_by (increment_for 0) rs =
    sum-push (increment_for 0) rs g ∙ omega (arith, q.ungranted 0) in
    cc

-- the streams, by any words for each of them
streams_after : (rs ss : List Frame) (g : Frame) (bs : Blocks) → IsFragment g → blocks_after (blocks_in rs) g ≡ bs →
    (m : ℕ → Stream) (k : ℕ → Bool) (xs : List ℕ)
    → rising_numbers 0 (map stream_of bs.finished) ≡ xs
    → map (at (rs ++ g ∷ []) ss) (filter (alive (rs ++ g ∷ []) ss) xs) ≡ map m (filter k xs)
    → streams_in (rs ++ g ∷ []) ss ≡ map m (filter k xs)
streams_after rs ss g bs q is m k xs r each =
    ap (λ (x : Blocks). map (at (rs ++ g ∷ []) ss) (filter (alive (rs ++ g ∷ []) ss) (rising_numbers 0 (map stream_of x.finished))))
    (in-blocks rs g ∙ is)
    ∙ ap (λ ys. map (at (rs ++ g ∷ []) ss) (filter (alive (rs ++ g ∷ []) ss) ys)) r
    ∙ each

-- ---- the block goes on

unfinished_taken : (rs ss : List Frame) (g : Frame) (b : HeaderBlock) → IsFragment g →
    blocks_after (blocks_in rs) g ≡ blocks_with (blocks_in rs).finished false b →
    std_of (rs ++ g ∷ []) ss ≡ after_begin (record (std_of rs ss) { unfinished = Some b })
unfinished_taken rs ss g b q is =
    let bs : Blocks = blocks_with (blocks_in rs).finished false b in
    by_blocks rs ss g bs (top rs) (streams_in rs ss) q is refl
    (streams_after rs ss g bs q is (at rs ss) (alive rs ss) (rising_numbers 0 (numbers rs)) refl
    (map_rising_agree (at (rs ++ g ∷ []) ss) (at rs ss) (alive (rs ++ g ∷ []) ss) (alive rs ss) 0 (numbers rs)
    (λ t _ _. at_after rs ss g bs t q is) (λ t _ _. alive_after rs ss g bs t q is)))

-- ---- the block is at its end

ended_more : (rs : List Frame) (b : HeaderBlock) (t : ℕ) →
    ended_by rs ((blocks_in rs).finished ++ b ∷ []) t ≡ (ended_c rs t || block_ends t b)
ended_more rs b t = ap (λ x. list_any (data_ends t) rs || x) (any-push (block_ends t) (blocks_in rs).finished b)
    ∙ or-assoc (list_any (data_ends t) rs) (list_any (block_ends t) (blocks_in rs).finished) (block_ends t b)

numbers_more : (rs : List Frame) (b : HeaderBlock) → map stream_of ((blocks_in rs).finished ++ b ∷ []) ≡ numbers rs ++ b.stream ∷ []
numbers_more rs b = map-append stream_of (blocks_in rs).finished (b ∷ [])

table_more : (rs : List Frame) (b : HeaderBlock) →
    fold table_after_block (Some new_table) ((blocks_in rs).finished ++ b ∷ [])
    ≡ table_after_block (fold table_after_block (Some new_table) (blocks_in rs).finished) b
table_more rs b = fold_push table_after_block (Some new_table) (blocks_in rs).finished b

pub top_more : (rs : List Frame) (b : HeaderBlock) → fold max 0 (map stream_of ((blocks_in rs).finished ++ b ∷ [])) ≡ max (top rs) b.stream
top_more rs b = ap (λ xs. fold max 0 xs) (numbers_more rs b) ∙ fold_push max 0 (numbers rs) b.stream

-- its stream is opened by it
opened_taken : (rs ss : List Frame) (g : Frame) (b : HeaderBlock) → IsFragment g →
    blocks_after (blocks_in rs) g ≡ blocks_with (blocks_in rs).finished true b → top rs < b.stream → Untouched rs ss b.stream
    → std_of (rs ++ g ∷ []) ss ≡ after_begin (record (std_of rs ss) {
      highest = b.stream;
      live = streams_in rs ss ++ new_stream (size rs) b.stream b.end_stream ∷ [];
      unfinished = None;
      table =
          table_after_block (fold table_after_block (Some new_table) (blocks_in rs).finished) b;
    })
opened_taken rs ss g b q is above new =
    let bs : Blocks = blocks_with (blocks_in rs).finished true b in
    let s = b.stream in
    let f = at (rs ++ g ∷ []) ss in
    let p = alive (rs ++ g ∷ []) ss in
    let opens : nat_lt (top rs) s ≡ true = grind (arith, nat_tests) in
    let high : max (top rs) s ≡ s = omega arith in
    let risen : rising_numbers 0 (map stream_of bs.finished) ≡ rising_numbers 0 (numbers rs) ++ s ∷ [] =
    ap (rising_numbers 0) (numbers_more rs b) ∙ rising_numbers-push 0 s (numbers rs)
    ∙ ap (λ c. rising_numbers 0 (numbers rs) ++ cond c (s ∷ []) []) opens in
    let unended : (t : ℕ) → t ≤ top rs → ended_by rs bs.finished t ≡ ended_c rs t = λ t low.
    let differs : (s == t) ≡ false = grind (arith, nat_tests) in
    ended_more rs b t ∙ ap (λ c. ended_c rs t || (b.end_stream && c)) differs ∙ ap (λ c. ended_c rs t || c) (and_false b.end_stream)
    ∙ or_false (ended_c rs t) in
    let old : map f (filter p (rising_numbers 0 (numbers rs))) ≡ streams_in rs ss =
    map_rising_agree f (at rs ss) p (alive rs ss) 0 (numbers rs)
    (λ t _ low. at_after rs ss g bs t q is ∙ ap (λ c. stream_by t c (ended_s ss t) (size rs) (granted_in rs t) (spent_in ss t))
    (unended t low))
    (λ t _ low. alive_after rs ss g bs t q is ∙ ap (λ c. not (reset_in rs ss t) && not (c && ended_s ss t)) (unended t low)) in
    let own : (s == s) ≡ true = grind (arith, nat_tests) in
    let ends : ended_by rs bs.finished s ≡ b.end_stream =
    ended_more rs b s ∙ ap (λ c. c || (b.end_stream && (s == s))) new.unended_c ∙ ap (λ c. b.end_stream && c) own
    ∙ and_true b.end_stream in
    let first : f s ≡ new_stream (size rs) s b.end_stream =
    at_after rs ss g bs s q is ∙ (let e = new.unended_s in let n = new.ungranted in let m = new.unspent in
    let z : pos 0 ≡ pos 0 -ℤ pos 0 = refl in cc) in
    let lives : p s ≡ true = alive_after rs ss g bs s q is ∙ ap (λ c. not c && not (ended_by rs bs.finished s && ended_s ss s)) new.unreset
    ∙ ap (λ c. not (ended_by rs bs.finished s && c)) new.unended_s ∙ ap not (and_false (ended_by rs bs.finished s)) in
    let streams : streams_in (rs ++ g ∷ []) ss ≡ streams_in rs ss ++ new_stream (size rs) s b.end_stream ∷ [] =
    streams_after rs ss g bs q is f p (rising_numbers 0 (numbers rs) ++ s ∷ []) risen refl
    ∙ ap (map f) (filter-append p (rising_numbers 0 (numbers rs)) (s ∷ []))
    ∙ map-append f (filter p (rising_numbers 0 (numbers rs))) (filter p (s ∷ []))
    ∙ ap (λ xs. xs ++ map f (filter p (s ∷ []))) old
    ∙ ap (λ c. streams_in rs ss ++ map f (cond c (s ∷ []) [])) lives
    ∙ ap (λ x. streams_in rs ss ++ x ∷ []) first in
    by_blocks rs ss g bs s _ q is (top_more rs b ∙ high) streams
    ∙ ap (λ (e : Option Table). after_begin (record (std_of rs ss)
    { highest = s; live = streams_in rs ss ++ new_stream (size rs) s b.end_stream ∷ []; unfinished = None; table = e }))
    (table_more rs b)

-- its stream was opened before
later_taken : (rs ss : List Frame) (g : Frame) (b : HeaderBlock) → IsFragment g →
    blocks_after (blocks_in rs) g ≡ blocks_with (blocks_in rs).finished true b → b.stream ≤ top rs → (l : List Stream)
    → map (at (rs ++ g ∷ []) ss) (filter (alive (rs ++ g ∷ []) ss) (rising_numbers 0 (numbers rs))) ≡ l
    → std_of (rs ++ g ∷ []) ss ≡ after_begin (record (std_of rs ss)
    { live = l; unfinished = None; table = table_after_block (fold table_after_block (Some new_table) (blocks_in rs).finished) b })
later_taken rs ss g b q is low l l-is =
    let bs : Blocks = blocks_with (blocks_in rs).finished true b in
    let s = b.stream in
    let stays : nat_lt (top rs) s ≡ false = grind (arith, nat_tests) in
    let high : max (top rs) s ≡ top rs = omega arith in
    let risen : rising_numbers 0 (map stream_of bs.finished) ≡ rising_numbers 0 (numbers rs) =
    ap (rising_numbers 0) (numbers_more rs b) ∙ rising_numbers-push 0 s (numbers rs)
    ∙ ap (λ c. rising_numbers 0 (numbers rs) ++ cond c (s ∷ []) []) stays ∙ append-nil (rising_numbers 0 (numbers rs)) in
    by_blocks rs ss g bs (top rs) l q is (top_more rs b ∙ high)
    (streams_after rs ss g bs q is (at (rs ++ g ∷ []) ss) (alive (rs ++ g ∷ []) ss) (rising_numbers 0 (numbers rs)) risen refl ∙ l-is)
    ∙ ap (λ (e : Option Table). after_begin (record (std_of rs ss) { live = l; unfinished = None; table = e })) (table_more rs b)

later_streams : (rs ss : List Frame) (g : Frame) (b : HeaderBlock) (e : Bool) → b.end_stream ≡ e → IsFragment g →
    blocks_after (blocks_in rs) g ≡ blocks_with (blocks_in rs).finished true b
    → map (at (rs ++ g ∷ []) ss) (filter (alive (rs ++ g ∷ []) ss) (rising_numbers 0 (numbers rs)))
    ≡ (after_client_end (std_of rs ss) b.stream e).live
later_streams rs ss g b false e-is q is =
    let bs : Blocks = blocks_with (blocks_in rs).finished true b in
    let same : (t : ℕ) → ended_by rs bs.finished t ≡ ended_c rs t =
    λ t. ended_more rs b t ∙ ap (λ c. ended_c rs t || (c && b.stream == t)) e-is ∙ or_false (ended_c rs t) in
    map_rising_agree _ _ _ _ 0 (numbers rs)
    (λ t _ _. at_after rs ss g bs t q is ∙ ap (λ c. stream_by t c (ended_s ss t) (size rs) (granted_in rs t) (spent_in ss t)) (same t))
    (λ t _ _. alive_after rs ss g bs t q is ∙ ap (λ c. not (reset_in rs ss t) && not (c && ended_s ss t)) (same t))
later_streams rs ss g b true e-is q is =
    let bs : Blocks = blocks_with (blocks_in rs).finished true b in
    let more : (t : ℕ) → ended_by rs bs.finished t ≡ (ended_c rs t || (b.stream == t)) =
    λ t. ended_more rs b t ∙ ap (λ c. ended_c rs t || (c && b.stream == t)) e-is in
    map_rising_agree _ _ _ _ 0 (numbers rs)
    (λ t _ _. at_after rs ss g bs t q is ∙ ap (λ c. stream_by t c (ended_s ss t) (size rs) (granted_in rs t) (spent_in ss t)) (more t)
    ∙ marked rs ss b.stream t)
    (λ t _ _. alive_after rs ss g bs t q is ∙ ap (λ c. not (reset_in rs ss t) && not (c && ended_s ss t)) (more t))
    ∙ sym (marked_streams rs ss b.stream (rising_numbers 0 (numbers rs)))
    ∙ ap (λ (v : Standing). v.live) (client_ends_always rs ss b.stream)

with_live_of : (v : Standing) (s : ℕ) (e : Bool) → with_live v (after_client_end v s e).live ≡ after_client_end v s e
with_live_of v s e = elim (cases_Bool (e && list_any (receives s) v.live)) [
  | inl ends ↦ rw ends refl
  | inr stays ↦ rw stays refl
]

same_ends : (v : Standing) (u : Option HeaderBlock) (t : Option Table) (s : ℕ) (e : Bool) →
    (after_client_end v s e).live ≡ (after_client_end (record v { unfinished = u; table = t }) s e).live
same_ends v u t s e = elim (cases_Bool (e && list_any (receives s) v.live)) [
  | inl ends ↦ rw ends refl
  | inr stays ↦ rw stays refl
]

finished_taken : (rs ss : List Frame) (g : Frame) (b : HeaderBlock) → Idle rs ss → IsFragment g →
    blocks_after (blocks_in rs) g ≡ blocks_with (blocks_in rs).finished true b
    → std_of (rs ++ g ∷ []) ss ≡ after_begin (after_block
    (record (std_of rs ss) {
      unfinished = None;
      table =
          table_after_block (fold table_after_block (Some new_table) (blocks_in rs).finished) b;
    }) b.stream b.end_stream)
finished_taken rs ss g b idle q is = elim (cases_Bool (nat_lt (top rs) b.stream)) [
  | inl opens ↦
      let above = ltb-true (top rs) b.stream opens in
      rw opens (opened_taken rs ss g b q is above (idle b.stream above))
  | inr stays ↦
      let low = ltb-false (top rs) b.stream stays in
      let v : Standing = record (std_of rs ss) {
        unfinished = None;
        table =
            table_after_block (fold table_after_block (Some new_table) (blocks_in rs).finished) b;
      } in
      rw stays (later_taken rs ss g b q is low _ (later_streams rs ss g b b.end_stream refl q is
      ∙ same_ends (std_of rs ss) None (table_after_block (fold table_after_block (Some new_table) (blocks_in rs).finished) b) b.stream
      b.end_stream) ∙ ap after_begin (with_live_of v b.stream b.end_stream))
]

-- ---- as a step takes it

abbrev Taken : List Frame → List Frame → Frame → Bool → HeaderBlock → Type 0
Taken rs ss g end_headers b = std_of (rs ++ g ∷ []) ss
    ≡ after_begin (after_header_list (with_headers (std_of rs ss) (state_after_block (std_of rs ss).table end_headers b))
    (list_of_block (std_of rs ss).table end_headers b))

whole_taken : (rs ss : List Frame) (g : Frame) (b : HeaderBlock) (r : Result (List Header) HpackError) (x : Option HeaderList) →
    (step (std_of rs ss).table b.fragment).0 ≡ r → list_of b.stream b.end_stream r ≡ Ok x
    → std_of (rs ++ g ∷ []) ss ≡ after_begin (after_block
    (record (std_of rs ss) { unfinished = None; table = (step (std_of rs ss).table b.fragment).1 }) b.stream b.end_stream)
    → std_of (rs ++ g ∷ []) ss ≡ after_begin (after_header_list
    (record (std_of rs ss) { unfinished = None; table = (step (std_of rs ss).table b.fragment).1 })
    (list_of b.stream b.end_stream (step (std_of rs ss).table b.fragment).0))
whole_taken rs ss g b (Ok fields) x r-is good h = rw r-is h
whole_taken rs ss g b (Err e) x r-is bad h = cc

by_end : (rs ss : List Frame) (g : Frame) (end_headers : Bool) (b : HeaderBlock) (x : Option HeaderList) → Idle rs ss → IsFragment g →
    blocks_after (blocks_in rs) g ≡ blocks_with (blocks_in rs).finished end_headers b →
    list_of_block (std_of rs ss).table end_headers b ≡ Ok x → is_excessive b ≡ false → Taken rs ss g end_headers b
by_end rs ss g true b x idle q is good fine =
    let good' : list_of b.stream b.end_stream (step (std_of rs ss).table b.fragment).0 ≡ Ok x = rw fine at good in
    rw fine (whole_taken rs ss g b (step (std_of rs ss).table b.fragment).0 x refl good' (finished_taken rs ss g b idle q is))
by_end rs ss g false b x idle q is good fine = rw fine (unfinished_taken rs ss g b q is)

pub fragment_taken : (rs ss : List Frame) (g : Frame) (end_headers : Bool) (b : HeaderBlock) (x : Option HeaderList) → Idle rs ss →
    IsFragment g → blocks_after (blocks_in rs) g ≡ blocks_with (blocks_in rs).finished end_headers b →
    list_of_block (std_of rs ss).table end_headers b ≡ Ok x → Taken rs ss g end_headers b
fragment_taken rs ss g end_headers b x idle q is good = elim (cases_Bool (is_excessive b)) [
  | inl excessive ↦ let bad = rw excessive at good in cc
  | inr fine ↦ by_end rs ss g end_headers b x idle q is good fine
]

-- ---- what was never opened stays untouched

pub idle_fragment : (rs ss : List Frame) (g : Frame) (end_headers : Bool) (b : HeaderBlock) → Idle rs ss → IsFragment g →
    blocks_after (blocks_in rs) g ≡ blocks_with (blocks_in rs).finished end_headers b → Idle (rs ++ g ∷ []) ss
idle_fragment rs ss g true b idle q is t above =
    let bs : Blocks = blocks_with (blocks_in rs).finished true b in
    let high : top (rs ++ g ∷ []) ≡ max (top rs) b.stream =
    ap (λ (x : Blocks). fold max 0 (map stream_of x.finished)) (in-blocks rs g ∙ is) ∙ top_more rs b in
    let far : max (top rs) b.stream < t = rw (← high) above in
    let before = idle t (omega arith) in
    let differs : (b.stream == t) ≡ false = grind (arith, nat_tests) in
    record {
      unreset = in-reset rs ss g t ∙ ap (λ c. reset_in rs ss t || c) (q.unreset t) ∙ or_false (reset_in rs ss t) ∙ before.unreset;
      unended_c = ended_after rs g bs t q is ∙ ended_more rs b t ∙ ap (λ c. ended_c rs t || (b.end_stream && c)) differs
          ∙ ap (λ c. ended_c rs t || c) (and_false b.end_stream) ∙ or_false (ended_c rs t) ∙ before.unended_c;
      unended_s = before.unended_s;
      ungranted = sum-push (increment_for t) rs g ∙ omega (arith, q.ungranted t, before.ungranted);
      unspent = before.unspent;
    }
idle_fragment rs ss g false b idle q is t above =
    let bs : Blocks = blocks_with (blocks_in rs).finished false b in
    let high : top (rs ++ g ∷ []) ≡ top rs = ap (λ (x : Blocks). fold max 0 (map stream_of x.finished)) (in-blocks rs g ∙ is) in
    let far : top rs < t = rw (← high) above in
    let before = idle t far in
    record {
      unreset = in-reset rs ss g t ∙ ap (λ c. reset_in rs ss t || c) (q.unreset t) ∙ or_false (reset_in rs ss t) ∙ before.unreset;
      unended_c = ended_after rs g bs t q is ∙ before.unended_c;
      unended_s = before.unended_s;
      ungranted = sum-push (increment_for t) rs g ∙ omega (arith, q.ungranted t, before.ungranted);
      unspent = before.unspent;
    }
