-- The first example down to its printed bytes: an alert is posted, and a tick when `group_wait` is
-- over notifies of it.
use Rattle.std.specs.Prelude.{◌≡◌, [], ◌∷◌, ◌++◌, codes}
use Rattle.std.specs.Fmt.{digits}
use Rattle.std.proofs.Common.{refl}
use Rattle.serde_json.proofs.OnLiterals.{serde_json_on_literals}
use Rattle.amr_time.specs.Calendar.{date_of}
use Rattle.amr_engine.specs.Events.{replaying}
use Rattle.amr_replay.proofs.worked.Setting.{config_ops}
use Rattle.amr_replay.proofs.worked.Times.{script}
use Rattle.amreplay.specs.Lines.Printed.{printing}
use Rattle.amreplay.specs.Program.Runs.{run_lines}

-- what the run prints
pub first_page : run_lines config_ops script
    ≡ codes "{\"at\":\"2024-05-01T10:00:30Z\",\"firing\":[{\"annotations\":{},\"labels\":{\"alertname\":\"DiskFull\"},\"startsAt\":\"2024-05-01T10:00:00Z\"}],\"groupLabels\":{\"alertname\":\"DiskFull\"},\"integration\":\"webhook\",\"place\":0,\"receiver\":\"ops\",\"resolved\":[],\"route\":0}" ++ 10 ∷ []
unfolding run_lines replaying printing serde_json_on_literals digits date_of
first_page = refl
