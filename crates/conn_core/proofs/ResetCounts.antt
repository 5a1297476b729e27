-- How the count of resets goes on with the history.
use Rattle.std.proofs.Common.{◌≡◌, ◌<◌, ℕ, ◌+◌, arith, List, [], ◌∷◌, ◌++◌, ap, ◌∙◌, sym, append_assoc}
use Rattle.std.specs.Prelude.{Bool, false, cond, ◌==◌, ◌&&◌, nat_le, map}
use Rattle.std.proofs.lemmas.Bool.{ne_eqb}
use Rattle.http2_frames.specs.declared.codes.frame_type.TheConstants.{RST_STREAM}
use Rattle.http2_frames.specs.declared.frame.Frame.{Frame}
use Rattle.http2_frames.specs.declared.frame.RawFrame.{RawFrame}
use Rattle.http2_streams.specs.History.{Entry, In, Out, Took, has_failed}
use Rattle.http2_streams.specs.Rules.{is_live_at}
use Rattle.http2_streams.specs.Standing.{Standing}
use Rattle.http2_streams.specs.StandsFor.{AreStreams}
use Rattle.grpc_sending.proofs.Histories.{append-nil}
use Rattle.conn_core.specs.declared.floods.TheConstants.{MOST_RESETS}
use Rattle.conn_core.specs.Floods.{resets_live, count_with, count_along, resets_since_taking, is_flood}
use Rattle.conn_core.proofs.Bring.{listed_streams}

along_more : (b : List Entry) (n : ℕ) (d : List Entry) (e : Entry) →
    count_along b n (d ++ e ∷ []) ≡ count_with (b ++ d) (count_along b n d) e
along_more b n [] e = ap (λ (x : List Entry). count_with x n e) (sym (append-nil b))
along_more b n (x ∷ d) e =
    along_more (b ++ x ∷ []) (count_with b n x) d e
    ∙ ap (λ (y : List Entry). count_with y (count_along (b ++ x ∷ []) (count_with b n x) d) e) (append_assoc b (x ∷ []) d)

pub count_more : (d : List Entry) (e : Entry) → resets_since_taking (d ++ e ∷ []) ≡ count_with d (resets_since_taking d) e
count_more d e = along_more [] 0 d e

-- what is put makes no difference
pub count_out : (d : List Entry) (fs : List Frame) → resets_since_taking (d ++ map Out fs) ≡ resets_since_taking d
count_out d [] = ap resets_since_taking (append-nil d)
count_out d (f ∷ fs) =
    ap resets_since_taking (sym (append_assoc d (Out f ∷ []) (map Out fs)))
    ∙ count_out (d ++ Out f ∷ []) fs
    ∙ count_more d (Out f)

pub count_frame : (d : List Entry) (f : RawFrame) (fs : List Frame) →
    resets_since_taking (d ++ In f ∷ map Out fs) ≡ resets_since_taking (d ++ In f ∷ [])
count_frame d f fs =
    ap resets_since_taking (sym (append_assoc d (In f ∷ []) (map Out fs)))
    ∙ count_out (d ++ In f ∷ []) fs

pub count_taken : (d : List Entry) (count n m : ℕ) → n ≡ resets_since_taking d → m ≡ cond (count == 0) n 0 →
    m ≡ resets_since_taking (d ++ Took count ∷ [])
count_taken d count n m is by = by ∙ ap (λ k. cond (count == 0) k 0) is ∙ sym (count_more d (Took count))

-- ---- by what is kept

abbrev pub resets_by : Standing → RawFrame → Bool
resets_by v f = f.kind == RST_STREAM && is_live_at v f.stream

pub resets_kept : (v : Standing) (d : List Entry) (f : RawFrame) → AreStreams v d → has_failed d ≡ false → resets_by v f ≡ resets_live d f
resets_kept v d f at fine = ap (λ b. f.kind == RST_STREAM && b) (listed_streams v d f.stream at fine)

pub floods_kept : (v : Standing) (d : List Entry) (f : RawFrame) (n : ℕ) (r flood : Bool) → AreStreams v d → has_failed d ≡ false →
    n ≡ resets_since_taking d → r ≡ resets_by v f → flood ≡ (r && nat_le MOST_RESETS n) → flood ≡ is_flood d f
floods_kept v d f n r flood at fine count is floods =
    floods
    ∙ ap (λ b. b && nat_le MOST_RESETS n) (is ∙ resets_kept v d f at fine)
    ∙ ap (λ m. resets_live d f && nat_le MOST_RESETS m) count

pub counts_frame : (v : Standing) (d : List Entry) (f : RawFrame) (n m : ℕ) (r flood : Bool) → AreStreams v d → has_failed d ≡ false →
    n ≡ resets_since_taking d → r ≡ resets_by v f → flood ≡ (r && nat_le MOST_RESETS n)
    → ((r && nat_le MOST_RESETS n) ≡ false → m ≡ cond r (n + 1) n) → flood ≡ false → m ≡ resets_since_taking (d ++ In f ∷ [])
counts_frame v d f n m r flood at fine count is floods by not_so =
    by (sym floods ∙ not_so)
    ∙ ap (λ b. cond b (n + 1) n) (is ∙ resets_kept v d f at fine)
    ∙ ap (λ k. cond (resets_live d f) (k + 1) k) count
    ∙ sym (count_more d (In f))

-- a byte was taken
pub taken_anew : (n count : ℕ) → 0 < n → cond (n == 0) count 0 ≡ 0
taken_anew n count more = ap (λ b. cond b count 0) (ne_eqb n 0 (λ is. omega (arith, more, is)))
