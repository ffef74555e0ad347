-- What a session over two files reads of its commands, and leaves in a writer.
use Rattle.std.specs.Prelude.{◌⊎◌, ℕ, List, Option, Result, Ok, Err}
use Rattle.std.specs.Io.KnownBytes.{Keeps}
use Rattle.amr_labels.specs.Labels.{Text}
use Rattle.amr_config.specs.Stated.Config as config
use Rattle.amr_events.specs.Scripts.{Script}
use Rattle.amreplay.specs.Commands.Replies.{Incident}
use Rattle.amreplay.specs.Commands.Converse.{Converses}
use Rattle.amreplay.specs.declared.fault.Fault.{Fault}
use Rattle.amreplay.specs.Program.Files.{Hold, AreRefused}

abbrev pub incident_with : config.Config → Script → Incident
incident_with held script = record { config = held; version = script.version; events = script.events }

-- A session over two files. If one is refused, its fault is returned, and nothing is read or
-- written. Otherwise the commands are answered until they end or an end fails.
abbrev pub SessionLeaves : Option Text → Option Text → Option Text → Option Text → List ℕ → List ℕ → Result (Unit {0}) Fault → Type 0
SessionLeaves source left old new bytes script_bytes (Ok u) =
    (held : config.Config) × (script : Script) × Hold bytes script_bytes held script × Converses (incident_with held script) source left old new (Ok u)
SessionLeaves source left old new bytes script_bytes (Err fault) =
    (AreRefused bytes script_bytes fault × Keeps source left × Keeps old new)
    ⊎ ((held : config.Config) × (script : Script) × Hold bytes script_bytes held script × Converses (incident_with held script) source left old new (Err fault))
