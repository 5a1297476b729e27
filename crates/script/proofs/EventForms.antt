-- A line tells an event exactly where it has its form.
use Rattle.std.proofs.Common.{◌≡◌, ℕ, ◌^◌, Bool, true, false, cond, List, [], ◌∷◌, Some, None, codes, refl, ap, ◌∙◌}
use Rattle.std.proofs.lemmas.Slice.Eq.{bytes_eq-Decides}
use Rattle.std.specs.Prelude.{option_map, option_and_then}
use Rattle.std.specs.Str.{bytes_eq}
use Rattle.script.specs.Hexadecimal.{bytes_of_hex, hex_word}
use Rattle.numerals.specs.Number.{decimal_of}
use Rattle.script.proofs.HexadecimalLemmas.{IsBytes-bytes_of_hex, bytes_of_hex-hex_word, hex_word-bytes_of_hex}
use Rattle.run_calls.specs.Outcomes.{exited, failed}
use Rattle.server_events.specs.Events.{WhatValue, opened, received, took, closed, tick, ended}
use Rattle.script.specs.Arguments.{exit_code_of, number_of, only_number_of}
use Rattle.script.specs.ReplayEvents.{content_of, exit, exit_of, fail_of, outputs_of, received_of, tick_of, took_of, what_of}
use Rattle.script.specs.ReplayLines.{IsNumber, Tells}
use Rattle.script.proofs.FileForms.{AreFiles-from_Some, IsContent-from_Some, Some-from_AreFiles, Some-from_IsContent}
use Rattle.script.proofs.NumberForms.{IsExitCode-from_Some, IsNumber-decimal_below, Some-from_IsExitCode, decimal_below-IsNumber}
use Rattle.script.proofs.Somes.{mapped, chained}

-- ---- from what is read to its form

only_number : (arguments : List (List ℕ)) (number : ℕ) → only_number_of arguments ≡ Some number
    → (word : List ℕ) × (arguments ≡ word ∷ []) × IsNumber (2 ^ 32) word number
only_number [] number h = cc
only_number (word ∷ []) number h = (word, refl, IsNumber-decimal_below (2 ^ 32) word number h)
only_number (word ∷ other ∷ more) number h = cc

open_form : (kind : List ℕ) (arguments : List (List ℕ)) (what : WhatValue) → kind ≡ codes "open" →
    option_map opened (only_number_of arguments) ≡ Some what → Tells kind arguments what
open_form kind arguments what k h =
    let read = mapped opened (only_number_of arguments) what h in
    rw (← read.2) (k, only_number arguments read.0 read.1)

closed_form : (kind : List ℕ) (arguments : List (List ℕ)) (what : WhatValue) → kind ≡ codes "closed" →
    option_map closed (only_number_of arguments) ≡ Some what → Tells kind arguments what
closed_form kind arguments what k h =
    let read = mapped closed (only_number_of arguments) what h in
    rw (← read.2) (k, only_number arguments read.0 read.1)

bytes_form : (kind : List ℕ) (arguments : List (List ℕ)) (what : WhatValue) → kind ≡ codes "bytes" → received_of arguments ≡ Some what →
    Tells kind arguments what
bytes_form kind [] what k h = cc
bytes_form kind (a ∷ []) what k h = cc
bytes_form kind (word ∷ digits ∷ []) what k h =
    let number = chained (λ n. option_map (received n) (bytes_of_hex digits)) (number_of word) what h in
    let read = mapped (received number.0) (bytes_of_hex digits) what number.2 in
    rw (← read.2) (
      k,
      (
        word,
        ap (λ d. word ∷ d ∷ []) (hex_word-bytes_of_hex digits read.0 read.1),
        IsNumber-decimal_below
            (2 ^ 32) word number.0 number.1,
        IsBytes-bytes_of_hex digits read.0 read.1,
      ),
    )
bytes_form kind (a ∷ b ∷ c ∷ more) what k h = cc

took_form : (kind : List ℕ) (arguments : List (List ℕ)) (what : WhatValue) → kind ≡ codes "took" → took_of arguments ≡ Some what →
    Tells kind arguments what
took_form kind [] what k h = cc
took_form kind (a ∷ []) what k h = cc
took_form kind (word ∷ digits ∷ []) what k h =
    let number = chained (λ n. option_map (took n) (number_of digits)) (number_of word) what h in
    let read = mapped (took number.0) (number_of digits) what number.2 in
    rw (← read.2) (
      k,
      (
        word,
        digits,
        refl,
        IsNumber-decimal_below (2 ^ 32) word number.0 number.1,
        IsNumber-decimal_below
            (2 ^ 32) digits read.0 read.1,
      ),
    )
took_form kind (a ∷ b ∷ c ∷ more) what k h = cc

tick_form : (kind : List ℕ) (arguments : List (List ℕ)) (what : WhatValue) → kind ≡ codes "tick" → tick_of arguments ≡ Some what →
    Tells kind arguments what
tick_form kind [] what k h = let same : tick ≡ what = cc in rw (← same) (k, refl)
tick_form kind (a ∷ more) what k h = cc

fail_form : (kind : List ℕ) (arguments : List (List ℕ)) (what : WhatValue) → kind ≡ codes "fail" → fail_of arguments ≡ Some what →
    Tells kind arguments what
fail_form kind [] what k h = cc
fail_form kind (word ∷ []) what k h =
    let read = mapped (λ n. ended n failed) (decimal_of word) what h in
    rw (← read.2) (k, (word, refl, read.1))
fail_form kind (a ∷ b ∷ more) what k h = cc

exit_form : (kind : List ℕ) (arguments : List (List ℕ)) (what : WhatValue) → kind ≡ codes "exit" → exit_of arguments ≡ Some what →
    Tells kind arguments what
exit_form kind [] what k h = cc
exit_form kind (a ∷ []) what k h = cc
exit_form kind (a ∷ b ∷ []) what k h = cc
exit_form kind (a ∷ b ∷ c ∷ []) what k h = cc
exit_form kind (job ∷ code ∷ stdout ∷ stderr ∷ files) what k h =
    let number = chained _ (decimal_of job) what h in
    let status = chained _ (exit_code_of code) what number.2 in
    let out = chained _ (content_of stdout) what status.2 in
    let error = chained _ (content_of stderr) what out.2 in
    let left = mapped (λ outputs. ended number.0 (exit status.0 out.0 error.0 outputs)) (outputs_of files) what error.2 in
    let out_text = IsContent-from_Some stdout out.0 out.1 in
    let error_text = IsContent-from_Some stderr error.0 error.1 in
    rw (← left.2) (
      k,
      record {
        number = job;
        status = code;
        files = files;
        form = ap (λ o. job ∷ code ∷ o ∷ stderr ∷ files) out_text.0
            ∙ ap (λ e. job ∷ code ∷ hex_word out.0 ∷ e ∷ files) error_text.0;
        job_number = number.1;
        exit_code = IsExitCode-from_Some code status.0 status.1;
        out_text = out_text.1;
        error_text = error_text.1;
        outputs_files = AreFiles-from_Some files left.0 left.1;
      },
    )

pub Tells-from_Some : (kind : List ℕ) (arguments : List (List ℕ)) (what : WhatValue) → what_of kind arguments ≡ Some what →
    Tells kind arguments what
Tells-from_Some kind arguments what h =
    go (bytes_eq kind (codes "open")) refl (bytes_eq kind (codes "closed")) refl (bytes_eq kind (codes "bytes")) refl
    (bytes_eq kind (codes "took")) refl
    (bytes_eq kind (codes "tick")) refl (bytes_eq kind (codes "exit")) refl (bytes_eq kind (codes "fail")) refl h
  where
    is : (word : List ℕ) → bytes_eq kind word ≡ true → kind ≡ word
    is word e = (bytes_eq-Decides kind word).0 e

    go : (a : Bool) → bytes_eq kind (codes "open") ≡ a → (b : Bool) → bytes_eq kind (codes "closed") ≡ b
        → (c : Bool) → bytes_eq kind (codes "bytes") ≡ c → (d : Bool) → bytes_eq kind (codes "took") ≡ d
        → (e : Bool) → bytes_eq kind (codes "tick") ≡ e → (f : Bool) → bytes_eq kind (codes "exit") ≡ f
        → (g : Bool) → bytes_eq kind (codes "fail") ≡ g
        → cond a (option_map opened (only_number_of arguments))
        (cond b (option_map closed (only_number_of arguments)) (cond c (received_of arguments)
        (cond d (took_of arguments) (cond e (tick_of arguments) (cond f (exit_of arguments) (cond g (fail_of arguments) None))))))
        ≡ Some what
        → Tells kind arguments what
    go true i b j c k d l e m f n g o h = open_form kind arguments what (is (codes "open") i) h
    go false i true j c k d l e m f n g o h = closed_form kind arguments what (is (codes "closed") j) h
    go false i false j true k d l e m f n g o h = bytes_form kind arguments what (is (codes "bytes") k) h
    go false i false j false k true l e m f n g o h = took_form kind arguments what (is (codes "took") l) h
    go false i false j false k false l true m f n g o h = tick_form kind arguments what (is (codes "tick") m) h
    go false i false j false k false l false m true n g o h = exit_form kind arguments what (is (codes "exit") n) h
    go false i false j false k false l false m false n true o h = fail_form kind arguments what (is (codes "fail") o) h
    go false i false j false k false l false m false n false o h = cc

-- ---- from a form to what is read

pub Some-from_Tells : (kind : List ℕ) (arguments : List (List ℕ)) (what : WhatValue) → Tells kind arguments what →
    what_of kind arguments ≡ Some what
Some-from_Tells kind arguments (opened connection) h =
    rw (h.0, h.1.1) (ap (option_map opened) (decimal_below-IsNumber (2 ^ 32) h.1.0 connection h.1.2))
Some-from_Tells kind arguments (received connection bytes) h =
    rw (h.0, h.1.1) (ap (option_and_then (λ n. option_map (received n) (bytes_of_hex (hex_word bytes))))
    (decimal_below-IsNumber (2 ^ 32) h.1.0 connection h.1.2)
    ∙ ap (option_map (received connection)) (bytes_of_hex-hex_word bytes h.1.3))
Some-from_Tells kind arguments (took connection count) h =
    rw (h.0, h.1.2) (ap (option_and_then (λ n. option_map (took n) (number_of h.1.1)))
    (decimal_below-IsNumber (2 ^ 32) h.1.0 connection h.1.3)
    ∙ ap (option_map (took connection)) (decimal_below-IsNumber (2 ^ 32) h.1.1 count h.1.4))
Some-from_Tells kind arguments (closed connection) h =
    rw (h.0, h.1.1) (ap (option_map closed) (decimal_below-IsNumber (2 ^ 32) h.1.0 connection h.1.2))
Some-from_Tells kind arguments tick h = rw (h.0, h.1) refl
Some-from_Tells kind arguments (ended job failed) h = rw (h.0, h.1.1) (ap (option_map (λ n. ended n failed)) h.1.2)
Some-from_Tells kind arguments (ended job (exited run)) h =
    let e = h.1 in
    let code = Some-from_IsExitCode e.status run.code e.exit_code in
    let out = Some-from_IsContent run.stdout e.out_text in
    let error = Some-from_IsContent run.stderr e.error_text in
    let outputs = Some-from_AreFiles e.files run.outputs e.outputs_files in
    rw (h.0, e.form) (rw (e.job_number, code, out, error, outputs) refl)
