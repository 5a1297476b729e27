-- What is written is read again.
use Rattle.std.proofs.Common.{◌≡◌, ℕ, ◌-◌, ◌*◌, ◌%◌, ◌^◌, ◌<◌, ◌≤◌, ◌==◌, Bool, true, false, nat_lt, List, [], ◌∷◌, ◌++◌, length, slice_range, map, Ok, inl, refl, sym, ap, ◌∙◌, arith}
use Rattle.std.specs.List.{AllByRecursion, flat_map}
use Rattle.std.proofs.lemmas.List.{append-nil}
use Rattle.std.proofs.lemmas.List.Concat.{flat_map-cons}
use Rattle.std.proofs.lemmas.Grind.{common_steps}
use Rattle.byteorder.specs.Endian.{big_bytes}
use Rattle.byteorder.specs.Numbers.{big_number-reads_back}
use Rattle.http2_frames.specs.Grammar.{Spells}
use Rattle.http2_frames.specs.declared.frame.RawFrame.{RawFrame}
use Rattle.http2_frames.specs.declared.frame.Frame.{Frame}
use Rattle.http2_frames.specs.declared.frame.Frame.TheVariants.{Data, Headers, Priority, RstStream, Settings, PushPromise, Ping, GoAway, WindowUpdate, Continuation, Unknown}
use Rattle.http2_frames.specs.Frames.{frame_of}
use Rattle.http2_frames.specs.declared.settings.Setting.{Setting}
use Rattle.http2_frames.specs.declared.codes.frame_type.TheConstants.{CONTINUATION}
use Rattle.http2_frames.specs.Settings.{settings_text}
use Rattle.http2_frames.specs.Wire.{IsFrameText}
use Rattle.http2_frames.specs.Reading.{split}
use Rattle.http2_frames.specs.Writing.{raw_of, frame_text, text_of, IsSetting, IsWritable}
use Rattle.http2_frames.proofs.Divisions.{split_only}
use Rattle.http2_frames.proofs.SettingsLists.{settings_again, settings_text_length}

whole_range : (xs : List ℕ) → slice_range xs 0 (length xs - 0) ≡ xs
whole_range xs = grind (arith, common_steps)

data_again : (s : ℕ) (e : Bool) (d : List ℕ) → 0 < s → frame_of (raw_of (Data s e d)) ≡ Ok (Data s e d)
data_again s true d h = let w = whole_range d in grind (arith, common_steps)
data_again s false d h = let w = whole_range d in grind (arith, common_steps)

headers_again : (s : ℕ) (e h : Bool) (d : List ℕ) → 0 < s → frame_of (raw_of (Headers s e h d)) ≡ Ok (Headers s e h d)
headers_again s true true d p = let w = whole_range d in grind (arith, common_steps)
headers_again s true false d p = let w = whole_range d in grind (arith, common_steps)
headers_again s false true d p = let w = whole_range d in grind (arith, common_steps)
headers_again s false false d p = let w = whole_range d in grind (arith, common_steps)

priority_again : (s : ℕ) (d : List ℕ) → 0 < s → length d ≡ 5 → frame_of (raw_of (Priority s d)) ≡ Ok (Priority s d)
priority_again s d p q = grind (arith, common_steps)

reset_again : (s n : ℕ) → 0 < s → n < 2 ^ 32 → frame_of (raw_of (RstStream s n)) ≡ Ok (RstStream s n)
reset_again s n p q = let e = big_number-reads_back 4 n [] (omega arith) in grind (arith, common_steps)

no_settings : (ss : List Setting) → ss ≡ [] → length (settings_text ss) ≡ 0
no_settings ss e = rw e refl

settings_again_at : (ack : Bool) (ss : List Setting) → AllByRecursion IsSetting ss → (ack ≡ true → ss ≡ []) →
    frame_of (raw_of (Settings ack ss)) ≡ Ok (Settings ack ss)
settings_again_at true ss h none =
    let e = settings_again ss h in
    let l = no_settings ss (none refl) in
    grind (arith, common_steps)
settings_again_at false ss h none =
    let e = settings_again ss h in
    let l = settings_text_length ss in
    let six : 6 * length ss % 6 ≡ 0 = omega arith in
    grind (arith, common_steps)

promise_again : (flags s : ℕ) (d : List ℕ) → frame_of (raw_of (PushPromise flags s d)) ≡ Ok (PushPromise flags s d)
promise_again flags s d = refl

ping_again : (ack : Bool) (d : List ℕ) → length d ≡ 8 → frame_of (raw_of (Ping ack d)) ≡ Ok (Ping ack d)
ping_again true d h = grind (arith, common_steps)
ping_again false d h = grind (arith, common_steps)

go_away_again : (l n : ℕ) (d : List ℕ) → l < 2 ^ 31 → n < 2 ^ 32 → frame_of (raw_of (GoAway l n d)) ≡ Ok (GoAway l n d)
go_away_again l n d p q =
    let last = big_number-reads_back 4 l (big_bytes 4 n ++ d) (omega arith) in
    let code = big_number-reads_back 4 n d (omega arith) in
    let small : l % 2 ^ 31 ≡ l = omega arith in
    let sized : nat_lt (length (raw_of (GoAway l n d)).payload) 8 ≡ false = grind arith in
    rw (last, code, small, sized) refl

update_again : (s n : ℕ) → n < 2 ^ 31 → frame_of (raw_of (WindowUpdate s n)) ≡ Ok (WindowUpdate s n)
update_again s n q =
    let e = big_number-reads_back 4 n [] (omega arith) in
    let small : n % 2 ^ 31 ≡ n = omega arith in
    rw (e, small) refl

continuation_again : (s : ℕ) (h : Bool) (d : List ℕ) → 0 < s → frame_of (raw_of (Continuation s h d)) ≡ Ok (Continuation s h d)
continuation_again s true d p = grind (arith, common_steps)
continuation_again s false d p = grind (arith, common_steps)

other : (k c : ℕ) → CONTINUATION < k → c ≤ 9 → (k == c) ≡ false
other k c p q = grind arith

unknown_again : (k g s : ℕ) (d : List ℕ) → CONTINUATION < k → frame_of (raw_of (Unknown k g s d)) ≡ Ok (Unknown k g s d)
unknown_again k g s d p = rw (
  other k 0 p (omega arith),
  other k 1 p (omega arith),
  other k 2 p (omega arith),
  other k 3 p
      (omega arith),
  other k 4 p (omega arith),
  other k 5 p (omega arith),
  other k 6 p (omega arith),
  other k 7 p (omega arith),
  other k 8 p
      (omega arith),
  other k 9 p (omega arith),
) refl

pub again : (f : Frame) → IsWritable f → frame_of (raw_of f) ≡ Ok f
again (Data s e d) h = data_again s e d h.0.0
again (Headers s e t d) h = headers_again s e t d h.0.0
again (Priority s d) h = priority_again s d h.0.0 h.1
again (RstStream s n) h = reset_again s n h.0.0 h.1
again (Settings ack ss) h = settings_again_at ack ss h.0 h.2
again (PushPromise flags s d) h = promise_again flags s d
again (Ping ack d) h = ping_again ack d h
again (GoAway l n d) h = go_away_again l n d h.0 h.1
again (WindowUpdate s n) h = update_again s n h.1
again (Continuation s t d) h = continuation_again s t d h.0.0
again (Unknown k g s d) h = unknown_again k g s d h.0

-- ---- a list of frames

frame_text_is : (r : RawFrame) → length r.payload ≤ 16384 → r.stream < 2 ^ 31 → IsFrameText (frame_text r) r
frame_text_is r small low =
    let size = big_number-reads_back 3 (length r.payload) [] (omega arith) in
    let stream = big_number-reads_back 4 r.stream [] (omega arith) in
    let same : r.stream % 2 ^ 31 ≡ r.stream = omega arith in
    record {
      size = big_bytes 3 (length r.payload);
      number = big_bytes 4 r.stream;
      parts = refl;
      three = refl;
      sized = size;
      four = refl;
      stream = ap (λ (n : ℕ). n % 2 ^ 31) stream ∙ same;
      short = small;
    }

record Fits (r : RawFrame) : Type 0 where
  small : length r.payload ≤ 16384
  low : r.stream < 2 ^ 31

fits : (f : Frame) → IsWritable f → Fits (raw_of f)
fits (Data s e d) h = record { small = h.1; low = h.0.1 }
fits (Headers s e t d) h = record { small = h.1; low = h.0.1 }
fits (Priority s d) h = let len = h.1 in record { small = omega arith; low = h.0.1 }
fits (RstStream s n) h = record { small = omega arith; low = h.0.1 }
fits (Settings ack ss) h = let len = settings_text_length ss in let small = h.1 in record { small = omega arith; low = omega arith }
fits (PushPromise flags s d) h = record { small = h.1; low = h.0 }
fits (Ping ack d) h = record { small = omega arith; low = omega arith }
fits (GoAway l n d) h = let small = h.2 in record { small = omega arith; low = omega arith }
fits (WindowUpdate s n) h = record { small = omega arith; low = h.0 }
fits (Continuation s t d) h = record { small = h.1; low = h.0.1 }
fits (Unknown k g s d) h = record { small = h.2; low = h.1 }

spelled : (fs : List Frame) → AllByRecursion IsWritable fs → Spells IsFrameText (flat_map text_of fs) (map raw_of fs)
spelled [] h = refl
spelled (f ∷ fs) h =
    let w = fits f h.0 in
    (text_of f, flat_map text_of fs, flat_map-cons text_of f fs, frame_text_is (raw_of f) w.small w.low, spelled fs h.1)

pub texts_again : (p : List ℕ) (fs : List Frame) → AllByRecursion IsWritable fs →
    split p (p ++ flat_map text_of fs) ≡ record { items = map raw_of fs; end = Ok [] }
texts_again p fs h =
    let text : List ℕ = flat_map text_of fs in
    split_only p (p ++ text) (record { items = map raw_of fs; end = Ok [] })
    (inl (
      text,
      refl,
      record {
        front = text;
        rest = [];
        parts = sym (append-nil text);
        items = spelled fs h;
        end =
            (refl, inl (omega arith));
      },
    ))
