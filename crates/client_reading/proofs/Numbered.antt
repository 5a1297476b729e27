-- Stream numbers, of the frames that were received.
use Rattle.std.proofs.Common.{◌≡◌, ℕ, ◌<◌, ◌^◌, List, [], ◌∷◌, arith}
use Rattle.std.specs.Prelude.{Bool, true, false, ◌&&◌, ◌||◌, ◌==◌, nat_lt, max, map, fold, Option, Some, None, Result, Ok, Err}
use Rattle.std.specs.List.{AllByRecursion, list_any, cons_option}
use Rattle.std.specs.Option.{option_map_or}
use Rattle.std.specs.Result.{result_ok}
use Rattle.std.proofs.lemmas.Bool.Decides.{nat_tests}
use Rattle.http2_frames.specs.declared.codes.ErrorCode.{ErrorCode}
use Rattle.http2_frames.specs.declared.codes.frame_type.TheConstants.{DATA, HEADERS, PRIORITY, RST_STREAM, SETTINGS, PUSH_PROMISE, PING, GOAWAY, WINDOW_UPDATE, CONTINUATION}
use Rattle.http2_frames.specs.declared.frame.RawFrame.{RawFrame}
use Rattle.http2_frames.specs.declared.frame.Frame.{Frame}
use Rattle.http2_frames.specs.declared.frame.Frame.TheVariants.{Data, Headers, WindowUpdate, Continuation}
use Rattle.http2_frames.specs.Frames.{frame_of, content_of, is_misaddressed, is_missized, is_overpadded, is_of_a_stream}
use Rattle.http2_frames.specs.Writing.{IsStream}
use Rattle.http2_streams.specs.HeaderBlock.{HeaderBlock, new_block, with_continuation}
use Rattle.http2_streams.specs.History.{Entry, In, Unreadable, Out, Took, Blocks, frame_in, received_frames, blocks_with, blocks_after, no_blocks, blocks_of, unfinished_block, stream_of, rising_numbers, opened_streams, highest_stream, live_streams, is_not_closed}
use Rattle.client_reading.specs.Changes.{IsReceivable}
use Rattle.client_reading.proofs.Choices.{choose, OkThen, or_none, all_append, all_filter, of_all}

-- ---- what a frame says of its stream

abbrev pub IsNumbered : Frame → Type 0
IsNumbered (Data s e bytes) = IsStream s
IsNumbered (Headers s e t fragment) = IsStream s
IsNumbered (WindowUpdate s n) = s < 2 ^ 31
IsNumbered _ = Unit {0}

above_none : (n : ℕ) → (n == 0) ≡ false → 0 < n
above_none n h = grind (arith, nat_tests)

data_addressed : (f : RawFrame) → is_misaddressed f ≡ false → (f.kind == DATA) ≡ true → 0 < f.stream
data_addressed f fine kind =
    let own : (is_of_a_stream f && (f.stream == 0)) ≡ false = (or_none _ _ fine).0 in
    let some : (f.stream == 0) ≡ false = rw kind at own in
    above_none f.stream some

first_of_two : (a b c d e z : Bool) → b ≡ true → ((a || b || c || d || e) && z) ≡ false → z ≡ false
first_of_two true b c d e z h k = k
first_of_two false true c d e z h k = k
first_of_two false false c d e z h k = cc

headers_addressed : (f : RawFrame) → is_misaddressed f ≡ false → (f.kind == HEADERS) ≡ true → 0 < f.stream
headers_addressed f fine kind =
    let own : (is_of_a_stream f && (f.stream == 0)) ≡ false = (or_none _ _ fine).0 in
    above_none f.stream (first_of_two (f.kind == DATA) (f.kind == HEADERS) (f.kind == PRIORITY) (f.kind == RST_STREAM)
    (f.kind == CONTINUATION) (f.stream == 0) kind own)

content_numbered : (f : RawFrame) → f.stream < 2 ^ 31 → is_misaddressed f ≡ false → IsNumbered (content_of f)
content_numbered f low fine =
    choose IsNumbered (f.kind == DATA) _ _ (λ k. (data_addressed f fine k, low))
    (λ _. choose IsNumbered (f.kind == HEADERS) _ _ (λ k. (headers_addressed f fine k, low))
    (λ _. choose IsNumbered (f.kind == PRIORITY) _ _ (λ _. tt)
    (λ _. choose IsNumbered (f.kind == RST_STREAM) _ _ (λ _. tt)
    (λ _. choose IsNumbered (f.kind == SETTINGS) _ _ (λ _. tt)
    (λ _. choose IsNumbered (f.kind == PUSH_PROMISE) _ _ (λ _. tt)
    (λ _. choose IsNumbered (f.kind == PING) _ _ (λ _. tt)
    (λ _. choose IsNumbered (f.kind == GOAWAY) _ _ (λ _. tt)
    (λ _. choose IsNumbered (f.kind == WINDOW_UPDATE) _ _ (λ _. low)
    (λ _. choose IsNumbered (f.kind == CONTINUATION) _ _ (λ _. tt) (λ _. tt))))))))))

pub frame_numbered : (f : RawFrame) → f.stream < 2 ^ 31 → OkThen IsNumbered (frame_of f)
frame_numbered f low =
    choose (OkThen IsNumbered) (is_misaddressed f) _ _ (λ _. tt)
    (λ fine. choose (OkThen IsNumbered) (is_missized f) _ _ (λ _. tt)
    (λ _. choose (OkThen IsNumbered) (is_overpadded f) _ _ (λ _. tt) (λ _. content_numbered f low fine)))

-- ---- entries

-- a frame that was received is one
abbrev pub IsFramed : Entry → Type 0
IsFramed (In f) = IsReceivable f
IsFramed _ = Unit {0}

abbrev SaysNumber : Option Frame → Type 0
SaysNumber None = Unit {0}
SaysNumber (Some g) = IsNumbered g

said : (o : Option Frame) (fs : List Frame) → SaysNumber o → AllByRecursion IsNumbered fs → AllByRecursion IsNumbered (cons_option o fs)
said None fs h k = k
said (Some g) fs h k = (h, k)

says : (r : Result Frame ErrorCode) → OkThen IsNumbered r → SaysNumber (result_ok r)
says (Ok g) h = h
says (Err e) h = tt

received_numbered : (d : List Entry) → AllByRecursion IsFramed d → AllByRecursion IsNumbered (received_frames d)
received_numbered [] h = tt
received_numbered (In f ∷ d) h = said (frame_in (In f)) (received_frames d) (says (frame_of f) (frame_numbered f h.0.1))
    (received_numbered d h.1)
received_numbered (Unreadable e ∷ d) h = received_numbered d h.1
received_numbered (Out f ∷ d) h = received_numbered d h.1
received_numbered (Took n ∷ d) h = received_numbered d h.1

-- ---- header blocks

abbrev HasStream : HeaderBlock → Type 0
HasStream b = IsStream b.stream

abbrev pub IsNumberedBlock : Option HeaderBlock → Type 0
IsNumberedBlock None = Unit {0}
IsNumberedBlock (Some b) = IsStream b.stream

record AreNumbered (bs : Blocks) : Type 0 where
  finished : AllByRecursion HasStream bs.finished
  unfinished : IsNumberedBlock bs.unfinished

placed_numbered : (bs : List HeaderBlock) (end_headers : Bool) (b : HeaderBlock) → AllByRecursion HasStream bs → IsStream b.stream →
    AreNumbered (blocks_with bs end_headers b)
placed_numbered bs true b h k = record { finished = all_append HasStream bs (b ∷ []) h (k, tt); unfinished = tt }
placed_numbered bs false b h k = record { finished = h; unfinished = k }

continued_numbered : (bs : Blocks) (u : Option HeaderBlock) (end_headers : Bool) (fragment : List ℕ) → AreNumbered bs → IsNumberedBlock u →
    AreNumbered (option_map_or (λ b. blocks_with bs.finished end_headers (with_continuation fragment b)) u bs)
continued_numbered bs None t fragment h k = h
continued_numbered bs (Some b) t fragment h k = placed_numbered bs.finished t (with_continuation fragment b) h.finished k

after_numbered : (bs : Blocks) (f : Frame) → IsNumbered f → AreNumbered bs → AreNumbered (blocks_after bs f)
after_numbered bs (Headers s e t fragment) n h = placed_numbered bs.finished t (new_block s e fragment) h.finished n
after_numbered bs (Continuation s t fragment) n h = continued_numbered bs bs.unfinished t fragment h h.unfinished
after_numbered bs _ n h = h

all_numbered : (bs : Blocks) (fs : List Frame) → AllByRecursion IsNumbered fs → AreNumbered bs → AreNumbered (fold blocks_after bs fs)
all_numbered bs [] all h = h
all_numbered bs (f ∷ fs) all h = all_numbered (blocks_after bs f) fs all.1 (after_numbered bs f all.0 h)

blocks_numbered : (d : List Entry) → AllByRecursion IsFramed d → AreNumbered (blocks_of d)
blocks_numbered d h = all_numbered no_blocks (received_frames d) (received_numbered d h) (record { finished = tt; unfinished = tt })

pub unfinished_numbered : (d : List Entry) → AllByRecursion IsFramed d → IsNumberedBlock (unfinished_block d)
unfinished_numbered d h = (blocks_numbered d h).unfinished

numbers : (bs : List HeaderBlock) → AllByRecursion HasStream bs → AllByRecursion IsStream (map stream_of bs)
numbers [] h = tt
numbers (b ∷ bs) h = (h.0, numbers bs h.1)

numbers_of : (d : List Entry) → AllByRecursion IsFramed d → AllByRecursion IsStream (map stream_of (blocks_of d).finished)
numbers_of d h = numbers (blocks_of d).finished (blocks_numbered d h).finished

lower : (m : ℕ) (xs : List ℕ) → AllByRecursion IsStream xs → m < 2 ^ 31 → fold max m xs < 2 ^ 31
lower m [] h low = low
lower m (x ∷ xs) h low = let k : x < 2 ^ 31 = h.0.1 in lower (max m x) xs h.1 (omega arith)

pub highest_low : (d : List Entry) → AllByRecursion IsFramed d → highest_stream d < 2 ^ 31
highest_low d h = lower 0 (map stream_of (blocks_of d).finished) (numbers_of d h) (omega arith)

rising_numbered : (m : ℕ) (xs : List ℕ) → AllByRecursion IsStream xs → AllByRecursion IsStream (rising_numbers m xs)
rising_numbered m [] h = tt
rising_numbered m (x ∷ xs) h = choose (AllByRecursion IsStream) (nat_lt m x) (x ∷ rising_numbers x xs) (rising_numbers m xs)
    (λ _. (h.0, rising_numbered x xs h.1)) (λ _. rising_numbered m xs h.1)

pub live_numbered : (d : List Entry) (s : ℕ) → AllByRecursion IsFramed d → list_any (λ t. t == s) (live_streams d) ≡ true → IsStream s
live_numbered d s h lives = of_all IsStream s (live_streams d)
    (all_filter IsStream (is_not_closed d) (opened_streams d) (rising_numbered 0 (map stream_of (blocks_of d).finished) (numbers_of d h)))
    lives
