use Rattle.std.proofs.Common.{rules}
use Rattle.http2_frames.proofs.SettingsLists.{settings_first}
use Rattle.http2_frames.proofs.settings.SettingsList.pop_first.Goals as goal

pub returns-clause-some : goal.returns-clause-some
returns-clause-some c =
    let a = c.behind_setting-self-inside.ensures in
    let b = c.setting_at-setting.ensures in
    let d = settings_first c.self.inside.bytes.now (search rules) in
    rw (← c.self.view_is, a, b) d
