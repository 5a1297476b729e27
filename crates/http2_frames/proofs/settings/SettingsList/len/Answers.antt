use Rattle.std.proofs.Common.{◌/◌, length, sym}
use Rattle.http2_frames.proofs.SettingsLists.{settings_length}
use Rattle.http2_frames.proofs.settings.SettingsList.len.Goals as goal

pub returns : goal.returns
returns c = rw (← c.self.view_is) (sym (settings_length (length c.self.inside.bytes.now / 6) c.self.inside.bytes.now))
