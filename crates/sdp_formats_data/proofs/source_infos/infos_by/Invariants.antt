use Rattle.std.proofs.Common.{◌≡◌, ◌++◌, [], drop, map}
use Rattle.sdp_formats_data.specs.KnownSources.{info_with}
use Rattle.sdp_formats_data.proofs.source_infos.infos_by.Given as goal

-- what is told so far, and what the sources that are left have
abbrev pub invariant-loop-source : goal.invariant-loop-source
invariant-loop-source l =
    l.infos.items ++ map (info_with l.known []) (drop l.source-index l.sources) ≡ map (info_with l.known []) l.sources
