-- Settings (RFC 9113, section 6.5.1): 16 bits of identifier, then 32 of value.
use Rattle.std.specs.Prelude.{ℕ, zero, suc, ◌/◌, List, [], ◌∷◌, ◌++◌, length, drop}
use Rattle.std.specs.List.{flat_map}
use Rattle.byteorder.specs.Endian.{big_number, big_bytes}
use Rattle.http2_frames.specs.declared.settings.Setting.{Setting}

abbrev pub setting_text : Setting → List ℕ
setting_text s = big_bytes 2 s.identifier ++ big_bytes 4 s.value

abbrev pub settings_text : List Setting → List ℕ
settings_text ss = flat_map setting_text ss

-- the setting in the first six bytes
abbrev pub setting_at : List ℕ → Setting
setting_at bytes = record { identifier = big_number 2 bytes; value = big_number 4 (drop 2 bytes) }

-- the settings in so many groups of six bytes
abbrev pub settings_in : ℕ → List ℕ → List Setting
settings_in zero bytes = []
settings_in (suc count) bytes = setting_at bytes ∷ settings_in count (drop 6 bytes)

abbrev pub settings_of : List ℕ → List Setting
settings_of bytes = settings_in (length bytes / 6) bytes
