-- The model of a program's value.
use Rattle.media_files.specs.Ogg.{Place}
use Rattle.media_files.specs.declared.ogg.PagePlace.{PagePlace}

abbrev pub place_shown : PagePlace → Place
place_shown p = record { flags = p.flags; granule = p.granule; serial = p.serial; sequence = p.sequence }
