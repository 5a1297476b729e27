-- No rule gives the empty blob an entry.
use Rattle.std.proofs.Common.{◌≡◌, ℕ, Bool, true, cond, List, [], ◌∷◌, ◌-◌, length, take, Some, ap, sym, subst, inl, inr}
use Rattle.std.specs.Prelude.{is_some, nat_lt, Option}
use Rattle.std.specs.List.{AllByRecursion}
use Rattle.std.specs.Map.{lookup}
use Rattle.std.proofs.lemmas.Bool.{cases_Bool}
use Rattle.digest.specs.declared.Digest.{Digest}
use Rattle.digest.specs.Naming.{same_digest, is_empty_digest}
use Rattle.instance_view.specs.Visible.{Blob, visible_text, visible_after_use}
use Rattle.quota_evict.specs.Admission.{longest_front, visible_after_admission}
use Rattle.cas_service.specs.Changes as Texts
use Rattle.bytestream.specs.Writing.{WriteState}
use Rattle.instance_core.specs.Answer.{answer}
use Rattle.instance_core.specs.Calls.{CallEventValue}
use Rattle.instance_core.specs.Changes.{InstanceChange, Text, Goes, Ends, Wrote, Keeps, Expires, Does, Pushes, Settles, MadeInPart, state_after_change, state_after_changes}
use Rattle.instance_core.specs.Losses.{WritesByRule, NothingWritten, PieceTaken, UploadFinished, UploadMisnamed, UploadTooLong, IsByRule, IsOfSomeByte, HasNoEmptyBlob}
use Rattle.instance_core.proofs.Losses.{front_is_by_rule}
use Rattle.instance_core.specs.State.{InstanceState}
use Rattle.instance_core.proofs.WriteAdds.{used_all, admitted_all}

admitted_none : (limit quota : ℕ) (d : Digest) (text : List ℕ) (bs : List Blob) → HasNoEmptyBlob bs →
    HasNoEmptyBlob (visible_after_admission limit quota d text bs)
admitted_none limit quota d text bs h = elim (cases_Bool (is_empty_digest d)) [
  | inl empty ↦
      let there : is_some (visible_text d bs) ≡ true =
      ap (λ b. is_some (cond {A = Option (List ℕ)} b (Some []) (lookup (same_digest d) bs))) empty in
      subst (λ (b : Bool). HasNoEmptyBlob (cond b (visible_after_use d bs)
      (cond (nat_lt quota (length text)) bs ((d, text) ∷ take (limit - 1) (longest_front (quota - length text) bs)))))
      (sym there) (used_all IsOfSomeByte d bs h)
  | inr some ↦ admitted_all IsOfSomeByte limit quota d text bs some h
]

-- the texts are these
seen_so : (w : WriteState) (bs : List Blob) → w.visible ≡ bs → HasNoEmptyBlob bs → HasNoEmptyBlob w.visible
seen_so w bs is h = subst HasNoEmptyBlob (sym is) h

-- ---- what the changes of an event leave

written_none : (s : InstanceState) (event : CallEventValue) (w : WriteState) → WritesByRule s event w → HasNoEmptyBlob s.visible →
    HasNoEmptyBlob w.visible
written_none s event w (NothingWritten is) h = seen_so w s.visible (ap (λ (x : WriteState). x.visible) is) h
written_none s event w (PieceTaken part brings is) h = seen_so w s.visible (ap (λ (x : WriteState). x.visible) is) h
written_none s event w (UploadFinished part brings last named is) h =
    seen_so w _ (ap (λ (x : WriteState). x.visible) is) (admitted_none s.limits.blobs s.quota part.key.digest _ s.visible h)
written_none s event w (UploadMisnamed part brings last named is) h = seen_so w s.visible (ap (λ (x : WriteState). x.visible) is) h
written_none s event w (UploadTooLong part brings long is) h = seen_so w s.visible (ap (λ (x : WriteState). x.visible) is) h

text_none : (limit quota : ℕ) (c : Texts.TextChange) (bs : List Blob) → HasNoEmptyBlob bs →
    HasNoEmptyBlob (Texts.visible_after_change limit quota c bs)
text_none limit quota (Texts.Use d) bs h = used_all IsOfSomeByte d bs h
text_none limit quota (Texts.Store d text) bs h = admitted_none limit quota d text bs h

-- what a Write leaves is made of the texts before the event
made_none : (s : InstanceState) (event : CallEventValue) → HasNoEmptyBlob s.visible → (cs : List InstanceChange) →
    AllByRecursion (IsByRule s event) cs → (r : InstanceState) → HasNoEmptyBlob r.visible →
    HasNoEmptyBlob (state_after_changes cs r).visible
made_none s event start [] rules r h = h
made_none s event start (Text c ∷ cs) rules r h =
    made_none s event start cs rules.1 (state_after_change (Text c) r) (text_none r.limits.blobs r.quota c r.visible h)
made_none s event start (Wrote w ∷ cs) rules r h =
    made_none s event start cs rules.1 (state_after_change (Wrote w) r) (written_none s event w rules.0 start)
made_none s event start (Goes id call ∷ cs) rules r h = made_none s event start cs rules.1 (state_after_change (Goes id call) r) h
made_none s event start (Ends id ∷ cs) rules r h = made_none s event start cs rules.1 (state_after_change (Ends id) r) h
made_none s event start (Keeps results ∷ cs) rules r h = made_none s event start cs rules.1 (state_after_change (Keeps results) r) h
made_none s event start (Expires ∷ cs) rules r h = made_none s event start cs rules.1 (state_after_change Expires r) h
made_none s event start (Does operation ∷ cs) rules r h = made_none s event start cs rules.1 (state_after_change (Does operation) r) h
made_none s event start (Pushes job ∷ cs) rules r h = made_none s event start cs rules.1 (state_after_change (Pushes job) r) h
made_none s event start (Settles steps ∷ cs) rules r h = made_none s event start cs rules.1 (state_after_change (Settles steps) r) h

pub none_empty : (s t : InstanceState) (event : CallEventValue) → MadeInPart (answer s event).changes s t → HasNoEmptyBlob s.visible →
    HasNoEmptyBlob t.visible
none_empty s t event part h =
    let rules = front_is_by_rule s event part.made part.left part.front in
    subst (λ (x : InstanceState). HasNoEmptyBlob x.visible) (sym part.so_far) (made_none s event h part.made rules s h)
