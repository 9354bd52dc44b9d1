-- What contracts see of a build.
use Rattle.registry_states.specs.declared.build.TreeBuild.TheInside.{Inside}
use Rattle.registry_states.specs.Builds.{Kept}

abbrev pub kept_of : Inside → Kept
kept_of build = record { cap = build.cap; told = build.items.items; place = build.standing; fault = build.fault }
