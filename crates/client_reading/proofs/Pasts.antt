-- The pasts of connections, and the frames that they are made of.
use Rattle.std.proofs.Common.{◌≡◌, ℕ, ◌<◌, ◌^◌, ◌%◌, List, [], ◌∷◌, ◌++◌, refl, ap, ◌∙◌, sym, subst, arith, inl, inr}
use Rattle.std.specs.List.{AllByRecursion}
use Rattle.std.proofs.lemmas.List.Sums.{fold-append}
use Rattle.http2_frames.specs.declared.frame.RawFrame.{RawFrame}
use Rattle.http2_frames.specs.Grammar.{Spells}
use Rattle.http2_frames.specs.Wire.{IsFrameText, Split, IsSplit}
use Rattle.http2_frames.specs.Reading.{split}
use Rattle.http2_frames.proofs.Divisions.{split_found}
use Rattle.conn_core.specs.Past.{Past, new_past}
use Rattle.client_reading.specs.Changes.{PastChange, past_after_change, IsReceivable, IsChange, IsPast}
use Rattle.client_reading.specs.Reads.{IsReadByClient}
use Rattle.client_reading.proofs.Choices.{all_append}
use Rattle.client_reading.proofs.All.{reads_past}

below : (n m : ℕ) → n % 2 ^ 31 ≡ m → m < 2 ^ 31
below n m h = omega (arith, h)

spelled_frames : (text : List ℕ) (fs : List RawFrame) → Spells IsFrameText text fs → AllByRecursion IsReceivable fs
spelled_frames text [] h = tt
spelled_frames text (f ∷ fs) h = let t = h.3 in ((t.short, below _ f.stream t.stream), spelled_frames h.1 fs h.4)

split_frames : (p text : List ℕ) (s : Split) → IsSplit p text s → AllByRecursion IsReceivable s.items
split_frames p text s (inl h) = spelled_frames h.2.front s.items h.2.items
split_frames p text s (inr (inl h)) = subst (λ (x : Split). AllByRecursion IsReceivable x.items) (sym h.1) tt
split_frames p text s (inr (inr h)) = subst (λ (x : Split). AllByRecursion IsReceivable x.items) (sym h.1) tt

pub frames_received : (p text : List ℕ) → AllByRecursion IsReceivable (split p text).items
frames_received p text = split_frames p text (split p text) (split_found p text)

pub first_past : (window : ℕ) → IsPast window (new_past window)
first_past window = ([], tt, refl)

pub next_past : (window : ℕ) (p : Past) (c : PastChange) → IsChange c → IsPast window p → IsPast window (past_after_change p c)
next_past window p c is h = (
  h.0 ++ c ∷ [],
  all_append IsChange h.0 (c ∷ []) h.1 (is, tt),
  ap (λ (q : Past). past_after_change q c) h.2
      ∙ sym (fold-append past_after_change (new_past window) h.0 (c ∷ [])),
)

pub past_read : (window : ℕ) (p : Past) → window < 2 ^ 31 → IsPast window p → IsReadByClient window p
past_read window p most h = subst (λ (q : Past). IsReadByClient window q) (sym h.2) (reads_past window h.0 most h.1)
