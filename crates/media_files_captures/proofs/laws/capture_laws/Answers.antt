use Rattle.std.proofs.Common.{[], length}
use Rattle.media_files_captures.proofs.PieceLemmas.{whole-made}
use Rattle.media_files_captures.proofs.UniqueLemmas.{pcap-unique, pcapng-unique, rtpdump-unique, hex-unique}
use Rattle.media_files_captures.proofs.laws.capture_laws.Goals as goal

pub returns-clause-pcap : goal.returns-clause-pcap
returns-clause-pcap c = pcap-unique

pub returns-clause-pcapng : goal.returns-clause-pcapng
returns-clause-pcapng c = pcapng-unique

pub returns-clause-rtpdump : goal.returns-clause-rtpdump
returns-clause-rtpdump c = rtpdump-unique

pub returns-clause-hex_lines : goal.returns-clause-hex_lines
returns-clause-hex_lines c = hex-unique

pub returns-clause-fragments : goal.returns-clause-fragments
returns-clause-fragments c = λ f held bytes is.
    let made = whole-made (length held) f held [] bytes is in (made.pieces, made.are, made.bytes_are)
