pub mod Clusters
pub mod ClusterLaws
