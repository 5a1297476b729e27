-- A text that grows.
use Rattle.std.proofs.Common.{◌≡◌, ℕ, inl, inr, List, [], ◌∷◌, ◌++◌, Result, Ok, Err, refl, sym, ap, subst, ◌∙◌, append_assoc}
use Rattle.http2_frames.specs.Items.{rest_only, fault_only}
use Rattle.http2_frames.proofs.WireItemsDivisions.{Grows, grows}
use Rattle.http2_frames.specs.declared.error.FrameError.{FrameError}
use Rattle.http2_frames.specs.declared.error.FrameError.TheVariants.{Preface}
use Rattle.http2_frames.specs.declared.frame.RawFrame.{RawFrame}
use Rattle.http2_frames.specs.Wire.{Split, Leaves}
use Rattle.http2_frames.specs.Reading.{frame_format, split_frames, split}
use Rattle.http2_frames.proofs.Fronts.{steady}
use Rattle.http2_frames.proofs.Divisions.{Compared, compared, past_only, short_only, off_only}

no_fault : (r : List ℕ) (e : FrameError) (end : Result (List ℕ) FrameError) → end ≡ Ok r → end ≡ Err e → ⊥
no_fault r e end h k = cc

from_rest : (r : List ℕ) (u : Split) → Grows (rest_only r) u
from_rest r u = record { more = (u.items, refl); ended = λ e h. absurd (no_fault r e _ refl h) }

from_fault : (d : FrameError) → Grows (fault_only {A = RawFrame} d) (fault_only d)
from_fault d = record { more = ([], refl); ended = λ e h. refl }

grows_as : (s s' u u' : Split) → s ≡ s' → u ≡ u' → Grows s' u' → Grows s u
grows_as s s' u u' a b g = subst (λ (x : Split). Grows x u) (sym a) (subst (λ (x : Split). Grows s' x) (sym b) g)

off_longer : (p t more : List ℕ) → Leaves p t → Leaves p (t ++ more)
off_longer p t more h = record {
  same = h.same;
  wanted = h.wanted;
  found = h.found;
  rest = h.rest;
  more = h.more ++ more;
  preface_is =
      h.preface_is;
  text_is = ap (λ (q : List ℕ). q ++ more) h.text_is ∙ append_assoc h.same (h.found ∷ h.more) more;
  other = h.other;
}

split_grows : (p t more : List ℕ) → Grows (split p t) (split p (t ++ more))
split_grows p t more = go (compared p t) where
  go : Compared p t → Grows (split p t) (split p (t ++ more))
  go (inl (after, e)) = grows_as _ (split_frames after) _ (split_frames (after ++ more)) (past_only p t after e)
      (past_only p (t ++ more) (after ++ more) (ap (λ (q : List ℕ). q ++ more) e ∙ append_assoc p after more))
      (grows frame_format steady after more)
  go (inr (inl h)) = grows_as _ (rest_only t) _ (split p (t ++ more)) (short_only p t h) refl (from_rest t (split p (t ++ more)))
  go (inr (inr h)) = grows_as _ (fault_only Preface) _ (fault_only Preface) (off_only p t h)
      (off_only p (t ++ more) (off_longer p t more h)) (from_fault Preface)

pub more_frames : (p t more : List ℕ) → (later : List RawFrame) × ((split p (t ++ more)).items ≡ (split p t).items ++ later)
more_frames p t more = (split_grows p t more).more

pub fault_lasts : (p t more : List ℕ) (e : FrameError) → (split p t).end ≡ Err e → split p (t ++ more) ≡ split p t
fault_lasts p t more = (split_grows p t more).ended
