-- What is written, put together.
use Rattle.std.proofs.Common.{◌≡◌, ℕ, ◌+◌, List, ◌++◌, length, ap, ◌∙◌, append_assoc, arith}
use Rattle.byteorder.specs.Endian.{big_bytes}
use Rattle.http2_frames.specs.declared.codes.frame_type.TheConstants.{GOAWAY}
use Rattle.http2_frames.specs.declared.frame.Frame.TheVariants.{GoAway}
use Rattle.http2_frames.specs.Writing.{header_text, text_of}

three : (old header numbers debug : List ℕ) → ((old ++ header) ++ numbers) ++ debug ≡ old ++ (header ++ (numbers ++ debug))
three old header numbers debug = append_assoc (old ++ header) numbers debug ∙ append_assoc old header (numbers ++ debug)

pub go_away_text : (old first second third debug : List ℕ) (n last code : ℕ) → n ≡ 8 + length debug →
    first ≡ old ++ header_text n GOAWAY 0 0
    → second ≡ first ++ (big_bytes 4 last ++ big_bytes 4 code) → third ≡ second ++ debug → third ≡ old ++ text_of (GoAway last code debug)
go_away_text old first second third debug n last code size a b d =
    let numbers : List ℕ = big_bytes 4 last ++ big_bytes 4 code in
    let whole : n ≡ length (numbers ++ debug) = omega arith in
    d ∙ ap (λ (x : List ℕ). x ++ debug) (b ∙ ap (λ (x : List ℕ). x ++ numbers) a) ∙ three old (header_text n GOAWAY 0 0) numbers debug
    ∙ ap (λ (k : ℕ). old ++ (header_text k GOAWAY 0 0 ++ (numbers ++ debug))) whole
