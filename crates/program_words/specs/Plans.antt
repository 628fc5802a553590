-- What plans ask for, as the synopsis says it of words.
use Rattle.std.specs.Prelude.{List, [], ◌∷◌, map, flat_map, option_map, string_bytes}
use Rattle.std.specs.declared.alloc.Global.{Global}
use Rattle.std.specs.declared.string.String.{String}
use Rattle.program_words.specs.Synopsis.{LiveRequest, Help, Version, Run, RunRequest, Word}
use Rattle.program_words.specs.declared.keeping.Keeping.{Keeping}
use Rattle.program_words.specs.declared.live_plan.Asked.{Asked}
use Rattle.program_words.specs.declared.live_plan.Asked.TheVariants as asked
use Rattle.program_words.specs.declared.live_plan.LivePlan.{LivePlan}
use Rattle.program_words.specs.declared.plan.Plan.{Plan}

-- what a plan asks for, by where it keeps layers and by its paths
abbrev pub request_with : Keeping → List Word → RunRequest
request_with keeping paths = record {
  store = option_map string_bytes keeping.store;
  opening = keeping.opening;
  workers = keeping.workers;
  max_blocks = keeping.max_blocks;
  paths = paths;
}

-- what a plan of overlayd asks for
abbrev pub request_kept : Plan → RunRequest
request_kept plan = request_with plan.keeping (map string_bytes plan.scripts.items)

-- the paths of pairs, one pair after another
abbrev pub paths_of : List (String Global × String Global) → List Word
paths_of pairs = flat_map (λ pair. string_bytes pair.0 ∷ string_bytes pair.1 ∷ []) pairs

-- what a plan of overlay_live asks for
abbrev pub live_request_kept : LivePlan → RunRequest
live_request_kept plan = request_with plan.keeping (paths_of plan.pairs.items)

-- what was asked of overlay_live
abbrev pub question_kept : Asked → LiveRequest
question_kept asked.Help = Help
question_kept asked.Version = Version
question_kept (asked.Run plan) = Run (live_request_kept plan)
