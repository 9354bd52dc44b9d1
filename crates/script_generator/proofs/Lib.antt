mod ClusterLaws
mod RoundLaws
