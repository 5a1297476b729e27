-- What is kept, by the frames that were received and those that were put.
use Rattle.std.proofs.Common.{◌≡◌, ℕ, ◌+◌, ◌<◌, List, [], ◌∷◌, ◌++◌, refl, ap, ◌∙◌, arith, length}
use Rattle.std.specs.Prelude.{map, filter, fold, max, sum_by, Bool, true, false, not, ◌&&◌, ◌||◌, nat_lt, Some, pos, ◌-ℤ◌}
use Rattle.std.specs.List.{filter_map, list_any}
use Rattle.std.proofs.lemmas.List.Sums.{fold_push, sum_by-append}
use Rattle.std.proofs.lemmas.Bool.Decides.{nat_tests}
use Rattle.hpack.specs.Table.{new_table}
use Rattle.http2_flow.specs.Credit.{Credit}
use Rattle.http2_flow.specs.declared.window.TheConstants.{INITIAL_SIZE}
use Rattle.http2_frames.specs.declared.frame.Frame.{Frame}
use Rattle.http2_streams.specs.declared.stream.Stream.{Stream}
use Rattle.http2_streams.specs.declared.streams.TheConstants.{MAX_REMEMBERED}
use Rattle.http2_streams.specs.History.{Blocks, blocks_after, no_blocks, stream_of, rising_numbers, resets, data_ends, block_ends, ends, size_after, increment_for, data_length, data_length_on, is_goaway, stream_reset_by, last_items, table_after_block}
use Rattle.http2_streams.specs.Standing.{Standing}
use Rattle.http2_streams.proofs.Lists.{any-push, filter-map, filter-filter, map-map}
use Rattle.http2_streams.proofs.Bools.{or-swap, or-assoc}

abbrev pub blocks_in : List Frame → Blocks
blocks_in rs = fold blocks_after no_blocks rs

abbrev pub numbers : List Frame → List ℕ
numbers rs = map stream_of (blocks_in rs).finished

abbrev pub top : List Frame → ℕ
top rs = fold max 0 (numbers rs)

abbrev pub reset_in : List Frame → List Frame → ℕ → Bool
reset_in rs ss s = list_any (resets s) rs || list_any (resets s) ss

abbrev pub ended_c : List Frame → ℕ → Bool
ended_c rs s = list_any (data_ends s) rs || list_any (block_ends s) (blocks_in rs).finished

abbrev pub ended_s : List Frame → ℕ → Bool
ended_s ss s = list_any (ends s) ss

abbrev pub alive : List Frame → List Frame → ℕ → Bool
alive rs ss s = not (reset_in rs ss s) && not (ended_c rs s && ended_s ss s)

abbrev pub size : List Frame → ℕ
size rs = fold size_after INITIAL_SIZE rs

abbrev pub granted_in : List Frame → ℕ → ℕ
granted_in rs s = sum_by (increment_for s) rs

abbrev pub spent_in : List Frame → ℕ → ℕ
spent_in ss s = sum_by (data_length_on s) ss

abbrev pub stream_by : ℕ → Bool → Bool → ℕ → ℕ → ℕ → Stream
stream_by s c e i g p = record {
  number = s;
  ended_by_client = c;
  ended_by_server = e;
  window =
      record { initial = i; change = pos g -ℤ pos p };
}

abbrev pub at : List Frame → List Frame → ℕ → Stream
at rs ss s = stream_by s (ended_c rs s) (ended_s ss s) (size rs) (granted_in rs s) (spent_in ss s)

abbrev pub streams_in : List Frame → List Frame → List Stream
streams_in rs ss = map (at rs ss) (filter (alive rs ss) (rising_numbers 0 (numbers rs)))

abbrev pub connection : List Frame → List Frame → Credit
connection rs ss = record { initial = INITIAL_SIZE; change = pos (sum_by (increment_for 0) rs) -ℤ pos (sum_by data_length ss) }

abbrev pub std_of : List Frame → List Frame → Standing
std_of rs ss = record {
  failed = list_any is_goaway ss;
  begun = nat_lt 0 (length rs);
  highest = top rs;
  live = streams_in rs ss;
  remembered = last_items MAX_REMEMBERED (filter_map stream_reset_by ss);
  initial_window_size = size rs;
  connection_window = connection rs ss;
  unfinished = (blocks_in rs).unfinished;
  table = fold table_after_block (Some new_table) (blocks_in rs).finished;
}

-- nothing has passed on stream s
pub record Untouched (rs ss : List Frame) (s : ℕ) : Type 0 where
  pub unreset : reset_in rs ss s ≡ false
  pub unended_c : ended_c rs s ≡ false
  pub unended_s : ended_s ss s ≡ false
  pub ungranted : granted_in rs s ≡ 0
  pub unspent : spent_in ss s ≡ 0

abbrev pub Idle : List Frame → List Frame → Type 0
Idle rs ss = (s : ℕ) → top rs < s → Untouched rs ss s

-- ---- one more frame

pub sum-push : {A : Type 0} (f : A → ℕ) (xs : List A) (x : A) → sum_by f (xs ++ x ∷ []) ≡ sum_by f xs + f x
sum-push f xs x = sum_by-append f xs (x ∷ []) ∙ omega arith

pub in-blocks : (rs : List Frame) (g : Frame) → blocks_in (rs ++ g ∷ []) ≡ blocks_after (blocks_in rs) g
in-blocks rs g = fold_push blocks_after no_blocks rs g

pub in-reset : (rs ss : List Frame) (g : Frame) (t : ℕ) → reset_in (rs ++ g ∷ []) ss t ≡ (reset_in rs ss t || resets t g)
in-reset rs ss g t = ap (λ b. b || list_any (resets t) ss) (any-push (resets t) rs g)
    ∙ or-swap (list_any (resets t) rs) (list_any (resets t) ss) (resets t g)

pub out-reset : (rs ss : List Frame) (g : Frame) (t : ℕ) → reset_in rs (ss ++ g ∷ []) t ≡ (reset_in rs ss t || resets t g)
out-reset rs ss g t = ap (λ b. list_any (resets t) rs || b) (any-push (resets t) ss g)
    ∙ or-assoc (list_any (resets t) rs) (list_any (resets t) ss) (resets t g)

pub in-ended : (rs : List Frame) (g : Frame) (t : ℕ) → blocks_after (blocks_in rs) g ≡ blocks_in rs →
    ended_c (rs ++ g ∷ []) t ≡ (ended_c rs t || data_ends t g)
in-ended rs g t same =
    let e : blocks_in (rs ++ g ∷ []) ≡ blocks_in rs = in-blocks rs g ∙ same in
    ap (λ (bs : Blocks). list_any (data_ends t) (rs ++ g ∷ []) || list_any (block_ends t) bs.finished) e
    ∙ ap (λ b. b || list_any (block_ends t) (blocks_in rs).finished) (any-push (data_ends t) rs g)
    ∙ or-swap (list_any (data_ends t) rs) (list_any (block_ends t) (blocks_in rs).finished) (data_ends t g)

pub in-size : (rs : List Frame) (g : Frame) → size (rs ++ g ∷ []) ≡ size_after (size rs) g
in-size rs g = fold_push size_after INITIAL_SIZE rs g

pub begun_after : (rs : List Frame) (g : Frame) → nat_lt 0 (length (rs ++ g ∷ [])) ≡ true
begun_after [] g = refl
begun_after (r ∷ rs) g = grind (arith, nat_tests)

-- what filters and maps of streams do to their numbers
pub kept_streams : (rs ss : List Frame) (k : Stream → Bool) (xs : List ℕ) →
    filter k (map (at rs ss) (filter (alive rs ss) xs)) ≡ map (at rs ss) (filter (λ t. alive rs ss t && k (at rs ss t)) xs)
kept_streams rs ss k xs = filter-map k (at rs ss) (filter (alive rs ss) xs)
    ∙ ap (map (at rs ss)) (filter-filter (λ t. k (at rs ss t)) (alive rs ss) xs)

pub changed_streams : (rs ss : List Frame) (m : Stream → Stream) (xs : List ℕ) →
    map m (map (at rs ss) (filter (alive rs ss) xs)) ≡ map (λ t. m (at rs ss t)) (filter (alive rs ss) xs)
changed_streams rs ss m xs = map-map m (at rs ss) (filter (alive rs ss) xs)

pub kept_and_changed : (rs ss : List Frame) (m : Stream → Stream) (k : Stream → Bool) (xs : List ℕ) →
    map m (filter k (map (at rs ss) (filter (alive rs ss) xs)))
    ≡ map (λ t. m (at rs ss t)) (filter (λ t. alive rs ss t && k (at rs ss t)) xs)
kept_and_changed rs ss m k xs = ap (map m) (kept_streams rs ss k xs)
    ∙ map-map m (at rs ss) (filter (λ t. alive rs ss t && k (at rs ss t)) xs)
